-- What the search for regions keeps, as the definitions have it.
pub mod Known
pub mod Spots
pub mod Passed
pub mod Reached
