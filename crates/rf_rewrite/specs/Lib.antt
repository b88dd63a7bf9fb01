-- What laws of rewriting speak of.
pub mod Rewritten
pub mod Removing
