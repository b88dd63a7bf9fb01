-- What a draft means as a module, or why it is none.
pub mod Answers
pub mod Blocks
pub mod Examples
pub mod InOrder
pub mod Links
pub mod Locals
pub mod Named
pub mod Outline
pub mod Resolved
pub mod Scope
pub mod Tops
pub mod Typed
