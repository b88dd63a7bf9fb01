-- What laws of packing speak of.
pub mod Lanes
