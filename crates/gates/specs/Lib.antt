pub mod Signals
pub mod Gates
pub mod Steps
