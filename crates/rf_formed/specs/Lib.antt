-- What laws of accepted modules speak of.
pub mod Accepted
