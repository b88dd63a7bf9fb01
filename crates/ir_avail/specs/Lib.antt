pub mod Avoids
pub mod Rows
pub mod Verdict
pub mod Known
pub mod Places
