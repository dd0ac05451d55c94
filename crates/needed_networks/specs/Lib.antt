pub mod Counts
pub mod Needs
pub mod Slices
pub mod Steps
