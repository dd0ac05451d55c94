-- Histories of lawful events, and their logs: facts which the crates above cite too.
pub mod Tasks
pub mod Latest
pub mod Names
pub mod Heard
pub mod Steps
