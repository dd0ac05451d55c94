pub mod Slots
pub mod First
pub mod Values
pub mod Conducting
pub mod Digests
pub mod Steps
