-- What a token is, what the tokens of a line are, and what a lexical fault is.
pub mod Bytes
pub mod Classes
pub mod Ends
pub mod Faults
pub mod Lanes
pub mod Scan
pub mod Tokens
pub mod Words
