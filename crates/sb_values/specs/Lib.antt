-- What a sandbox is.
pub mod Sandboxes
pub mod Undoing
pub mod Answering
pub mod Fitting
pub mod Making
