-- The instructions that end at a region's stores.
pub mod Reach
pub mod Trails
pub mod Graphs
pub mod Rows
pub mod Orders
pub mod Cycles
pub mod Ordered
