-- What the proofs of the crate share, and the laws that crates above stand on.
pub mod Again
pub mod Classes
pub mod Cutting
mod Examples
pub mod Faulty
pub mod Lanes
pub mod Laws
pub mod Longer
pub mod Runs
pub mod Standing
pub mod Table
