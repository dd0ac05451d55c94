pub mod Lines
pub mod Chars
pub mod Numbers
pub mod Durations
pub mod Addresses
pub mod Steps
