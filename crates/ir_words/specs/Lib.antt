-- What words say, and how parts are read from the front of them.
pub mod Cursors
pub mod Kinds
pub mod Layout
pub mod Reading
pub mod Values
pub mod Words
