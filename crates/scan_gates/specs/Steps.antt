-- Steps of the proofs.
pub mod Pairs
pub mod Pushing
