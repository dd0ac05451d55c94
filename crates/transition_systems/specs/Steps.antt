-- Steps of the proofs. No reader has to believe them.
pub mod Inputs
pub mod Inductive
pub mod Depths
