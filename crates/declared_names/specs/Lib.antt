pub mod Kinds
pub mod Names
pub mod Steps
