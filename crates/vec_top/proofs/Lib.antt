pub mod Accepting
pub mod Completing
pub mod Counting
pub mod Outcomes
