-- What words ask for, how a run starts by them, and how an outcome is written.
pub mod Answers
pub mod Numbers
pub mod Pieces
pub mod Literals
pub mod Hex
pub mod Calls
pub mod Commands
pub mod Arguments
pub mod Globals
pub mod Starts
pub mod Outcomes
