pub mod Symbols
pub mod Picture
pub mod Lines
