pub mod Answering
pub mod Standing
pub mod Chains
pub mod Blocks
pub mod Reaching
pub mod Modules
