-- Steps of the proofs. Only contracts inside this crate cite them, so no reader has to believe them.
pub mod Stored
pub mod NameSets
pub mod NamesOf
pub mod Ends
