pub mod Clauses
pub mod Steps
