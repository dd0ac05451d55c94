-- The faults of networks.
pub mod FirstFound
pub mod FirstCorners
