-- The rules but for the order, and with it.
pub mod Telling
pub mod Finding
pub mod Lanes
