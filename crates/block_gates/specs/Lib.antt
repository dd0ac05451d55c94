pub mod Blocks
pub mod Signals
