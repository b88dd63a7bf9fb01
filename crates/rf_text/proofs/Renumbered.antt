-- Proofs of ids given anew.
pub mod Forms
pub mod Text
