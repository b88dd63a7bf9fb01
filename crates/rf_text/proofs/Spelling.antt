-- Proofs of a module that spells.
pub mod Built
pub mod Items
pub mod Locals
pub mod Placed
pub mod Reads
