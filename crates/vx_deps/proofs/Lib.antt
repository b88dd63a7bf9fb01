-- Lemmas on reach.
pub mod Trailing
pub mod Standings
pub mod Steps
pub mod Stores
pub mod Nearness
pub mod Growing
pub mod Orders
pub mod Naming
pub mod Rowing
pub mod Grouping
pub mod Cycling
pub mod Posing
pub mod Following
pub mod Telling
pub mod Walking
