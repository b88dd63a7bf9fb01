pub mod Count
pub mod Bytes
pub mod Given
pub mod Collected
pub mod Bounded
pub mod Counted
pub mod Room
