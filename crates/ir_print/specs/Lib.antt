-- What the text of a module is, from its smallest parts to the whole: `Text` has `text_of`.
pub mod Literals
pub mod Names
pub mod Operands
pub mod Instructions
pub mod Index
pub mod Shown
pub mod Text
