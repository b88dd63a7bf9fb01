-- Lemmas that nobody need believe.
pub mod Agreeing
pub mod Answering
pub mod EmptyLines
pub mod Feeds
pub mod Flowing
pub mod InsideLines
pub mod ItemsRead
pub mod Joining
pub mod LineForms
pub mod LoneBraces
pub mod Named
pub mod Placing
pub mod ReadBodies
pub mod Sizes
pub mod Splitting
pub mod Stepping
