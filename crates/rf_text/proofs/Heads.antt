-- Proofs of headers.
pub mod Again
pub mod Found
pub mod Printed
pub mod Read
pub mod Shown
pub mod Typed
pub mod Types
