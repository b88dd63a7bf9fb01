-- What an instruction costs, and what words set.
pub mod Keys
pub mod Prices
pub mod Settings
