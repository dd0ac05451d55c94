-- Rows of characters, and lists by place.
pub mod Runs
pub mod LeftRail
pub mod ListedItems
