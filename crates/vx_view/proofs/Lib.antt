-- Lemmas on edits and changes, which the crates above share.
pub mod Edits
pub mod Removed
pub mod Undone
pub mod Moved
pub mod Law
pub mod Lifted
pub mod Blocks
pub mod Asking
mod Ordering
