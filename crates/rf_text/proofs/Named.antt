-- Proofs of names.
pub mod Built
pub mod Found
pub mod Function
pub mod Links
pub mod Locals
pub mod Module
pub mod Places
pub mod Scope
pub mod Shown
pub mod Things
pub mod Tops
pub mod Typed
