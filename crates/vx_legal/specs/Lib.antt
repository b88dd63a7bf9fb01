-- How a bundle of lanes is had, up to the order of bundles.
pub mod Legality
pub mod Found
