pub mod Agreeing
pub mod Known
pub mod Follows
pub mod LiteralsOn
