-- Proofs of parts of lines.
pub mod Of
pub mod Blocks
pub mod Flags
pub mod Literals
pub mod Memory
pub mod Operands
pub mod Types
