-- What a line spells.
pub mod Answers
pub mod Body
pub mod Calls
pub mod CallSpelling
pub mod Headers
pub mod Keeping
pub mod Outside
pub mod Sound
