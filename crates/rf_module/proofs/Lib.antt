-- Why rewritten modules are formed.
pub mod Lines
pub mod Exchange
pub mod Exchanged
pub mod Links
pub mod Types
pub mod Nodes
pub mod Forms
pub mod Turns
pub mod Steps
pub mod Slots
pub mod Bundles
pub mod Extracts
