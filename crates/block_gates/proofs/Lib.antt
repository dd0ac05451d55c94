pub mod Counts
pub mod Both
pub mod Parts
pub mod Stepped
pub mod OneToOne
