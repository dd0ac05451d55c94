-- The schedule of a book makes its entries again.
pub mod Suiting
pub mod Scheduling
pub mod Hearing
pub mod Replaying
pub mod Replayable
pub mod Listing
pub mod Tables
