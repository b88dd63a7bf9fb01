-- What the types of a draft stand for.
pub mod Args
