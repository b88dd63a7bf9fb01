-- What laws of printed and read text speak of.
pub mod Again
pub mod Exact
pub mod Headed
pub mod Limits
pub mod LinesOf
pub mod ModuleForms
pub mod OpaqueText
pub mod Printable
pub mod Printed
pub mod Readable
pub mod Reads
pub mod Shown
pub mod Spelled
pub mod Spells
pub mod TextLines
pub mod Written
