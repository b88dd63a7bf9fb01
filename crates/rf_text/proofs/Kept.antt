-- Proofs of kept lines.
pub mod Lines
pub mod Words
