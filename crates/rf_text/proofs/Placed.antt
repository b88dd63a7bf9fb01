-- Proofs of where things stand.
pub mod Blocks
pub mod Insts
pub mod Items
pub mod Module
pub mod Names
