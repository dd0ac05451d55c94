-- Steps of the proofs. Only contracts inside this crate cite them, and proofs above (`Values`), so no reader has to
-- believe them.
pub mod Bytes
pub mod Gaps
pub mod Reading
pub mod Values
