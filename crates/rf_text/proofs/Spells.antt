-- Proofs of what spells a module.
pub mod Built
pub mod Counts
pub mod Forms
pub mod Insts
pub mod Lines
pub mod Marks
pub mod Module
pub mod Numbers
pub mod Order
pub mod Scope
