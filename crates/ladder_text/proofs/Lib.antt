pub mod Rows
pub mod Outlines
pub mod Marks
pub mod Words
pub mod Faults
