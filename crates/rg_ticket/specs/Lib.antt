-- The definitions: the hand of a pass, the rule, and what contracts see of a pass and the tickets.
pub mod Hands
pub mod Rule
pub mod Passes
