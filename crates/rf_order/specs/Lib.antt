-- What laws of reordering speak of.
pub mod Rows
pub mod Swaps
pub mod Steps
pub mod Windows
pub mod Ready
pub mod Blocks
pub mod Functions
