-- The lemmas: sums over hands, the steps, and examples.
pub mod Totals
pub mod Steps
pub mod Examples
