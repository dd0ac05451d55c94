-- Steps of the proofs. Only contracts inside this crate cite them, so no reader has to believe them.
pub mod Search
pub mod Limits
pub mod Marks
pub mod Asking
pub mod Adding
pub mod Keeping
pub mod Wholes
