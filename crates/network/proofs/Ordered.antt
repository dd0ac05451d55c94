-- Networks in order.
pub mod LeftRails
pub mod Ranking
pub mod Splitting
