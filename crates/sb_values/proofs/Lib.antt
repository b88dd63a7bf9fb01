-- Lemmas on sandboxes.
pub mod Deciding
pub mod Making
pub mod Told
