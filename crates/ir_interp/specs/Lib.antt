-- What the code keeps while a function runs, as the meanings see it.
pub mod Pairing
pub mod Partial
pub mod Walks
pub mod Lowest
pub mod Effects
pub mod Slots
pub mod Blocks
