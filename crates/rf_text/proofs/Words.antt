-- Proofs of words.
pub mod Read
pub mod Names
pub mod Numbers
