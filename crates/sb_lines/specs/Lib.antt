-- What linked instructions are.
pub mod Filling
pub mod Spots
pub mod Params
pub mod Nodes
pub mod Arena
pub mod Types
pub mod Whole
pub mod Steps
pub mod Lifting
