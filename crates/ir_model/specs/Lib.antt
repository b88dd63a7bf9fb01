-- What modules mean: values, memories, one step, bounded runs, and when one module may stand for another.
pub mod Values
pub mod Memory
pub mod Sizes
pub mod Operations
pub mod Addresses
pub mod Accesses
pub mod Step
pub mod Run
pub mod CallFree
pub mod Fits
pub mod Refines
pub mod Monotone
pub mod Shapes
pub mod Causes
pub mod Examples
