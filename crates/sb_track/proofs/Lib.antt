-- Lemmas on tracked sandboxes.
pub mod Unwinding
pub mod Agreeing
pub mod Sorting
pub mod Indices
pub mod Telling
