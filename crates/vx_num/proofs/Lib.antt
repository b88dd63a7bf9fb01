pub mod Ranges
pub mod Wrapping
pub mod Finer
pub mod Readings
