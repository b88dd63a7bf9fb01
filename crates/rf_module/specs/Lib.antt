-- What laws of rewritten modules speak of.
pub mod Trees
