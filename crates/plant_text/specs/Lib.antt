pub mod Words
pub mod Places
pub mod Spelling
pub mod Lines
pub mod Steps
