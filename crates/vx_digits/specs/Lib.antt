-- Numbers as digits: what is read, and what is written.
pub mod Lanes
pub mod Numbers
pub mod Optional
