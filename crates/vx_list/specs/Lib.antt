-- What the clauses of lists say beyond the words of `std`.
pub mod Lends
pub mod Roomy
pub mod Text
