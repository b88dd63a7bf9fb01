-- The forms of lines of functions: their parts, their trees, and how they are read.
pub mod Forms
pub mod Grammar
pub mod Operands
pub mod Pieces
