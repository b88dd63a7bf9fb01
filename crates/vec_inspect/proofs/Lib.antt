-- Lemmas on bundles that are asked for an order.
pub mod Membership
