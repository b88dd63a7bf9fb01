-- What the optimizer writes.
pub mod Window
pub mod Bundles
pub mod Near
pub mod Regions
pub mod Legal
pub mod Tree
pub mod Rewriting
pub mod Changing
pub mod Serial
pub mod Pair
pub mod PairScan
pub mod PairPlaces
pub mod PairExamples
