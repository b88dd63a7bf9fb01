-- Proofs of instructions.
pub mod Each
pub mod All
pub mod Bodies
pub mod Flow
pub mod Labels
pub mod Memory
pub mod Steps
pub mod Switch
pub mod Values
pub mod Vectors
