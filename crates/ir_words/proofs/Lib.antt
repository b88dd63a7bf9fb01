pub mod FirstBytes
pub mod LaneLists
pub mod Lists
pub mod Tables
