-- What a tracked sandbox is.
pub mod Tracking
pub mod Indexing
pub mod Asking
