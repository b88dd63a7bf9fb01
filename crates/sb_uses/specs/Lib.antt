-- What use lists are.
pub mod Chains
pub mod Places
pub mod Linking
pub mod Entering
pub mod Whole
pub mod Spots
pub mod Stock
pub mod StockAfter
pub mod Totals
pub mod Lifting
