pub mod Lookups
pub mod Steps
pub mod After
pub mod Pairs
pub mod Comparing
