pub mod Pairs
pub mod Params
pub mod Places
pub mod Fitting
