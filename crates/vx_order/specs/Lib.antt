-- Groups of places, and their order under dependences.
pub mod Groups
pub mod Order
pub mod Tables
pub mod Fixed
pub mod Walks
pub mod Backward
