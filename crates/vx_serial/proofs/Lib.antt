-- Lemmas on what the optimizer writes, and on windows of bundles.
pub mod Decided
pub mod Numbers
pub mod Grouped
pub mod Places
pub mod Partitions
pub mod Scan
pub mod Start
pub mod Least
