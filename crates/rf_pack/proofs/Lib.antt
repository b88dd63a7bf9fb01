-- Why the laws of packing hold.
pub mod Rows
pub mod Known
pub mod Statements
pub mod Mates
pub mod Straight
pub mod Runs
pub mod Modules
pub mod PairShape
pub mod PairKept
pub mod PairFormed
