-- What the steps of a question owe each other; the answers' text is no part of it.
pub mod Accepted
pub mod Members
pub mod Ready
