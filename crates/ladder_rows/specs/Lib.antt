pub mod Rows
pub mod Boxes
pub mod BoxTests
pub mod Faults
pub mod Laws
pub mod Steps
