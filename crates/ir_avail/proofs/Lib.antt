pub mod Ways
pub mod Leasts
pub mod Stands
pub mod Lists
pub mod Bits
pub mod Firsts
