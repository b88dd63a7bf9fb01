-- Lemmas on tables of ids, and on formed modules and their ids, that the crates above share.
pub mod IdTables
pub mod Formed
pub mod Among
pub mod Renumbered
pub mod SameTypes
