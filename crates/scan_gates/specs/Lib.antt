pub mod Encoded
pub mod States
pub mod Steps
