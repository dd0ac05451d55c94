pub mod Raising
pub mod Reading
pub mod Telling
