-- Histories of lawful events, and their logs.
pub mod OneLog
pub mod Pairs
