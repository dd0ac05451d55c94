pub mod Topics
pub mod Kinds
pub mod Explaining
pub mod Excerpts
pub mod Helping
pub mod Steps
