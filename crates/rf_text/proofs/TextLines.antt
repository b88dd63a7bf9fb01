-- Proofs of lines of a text.
pub mod Lines
pub mod Bodies
pub mod Fits
pub mod Names
pub mod Once
pub mod Typed
pub mod Types
