mod Moments
mod Ordered
mod Planned
pub mod SameCode
