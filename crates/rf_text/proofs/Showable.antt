-- Proofs of what was read can be printed.
pub mod Forms
pub mod Heads
pub mod Items
pub mod Lines
pub mod Module
pub mod Names
