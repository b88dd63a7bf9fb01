-- What the proofs of the crate share.
pub mod Placing
pub mod Trails
pub mod Counts
mod Examples
pub mod Holding
pub mod Stuck
