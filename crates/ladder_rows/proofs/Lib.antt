pub mod Rows
pub mod Outlines
