-- Proofs of types.
pub mod Insts
pub mod Items
pub mod Marks
