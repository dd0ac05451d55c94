-- Cores and worlds follow the history.
pub mod Takes
pub mod Leaving
pub mod Moves
pub mod Events
pub mod Starts
pub mod Answered
pub mod Holding
