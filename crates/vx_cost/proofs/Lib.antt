-- What the proofs of the crate share, and the definitions at work.
mod Examples
pub mod Spelling
pub mod Steps
