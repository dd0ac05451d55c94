pub mod Given
pub mod Turns
pub mod Stops
pub mod Loops
pub mod Running
pub mod Steps
