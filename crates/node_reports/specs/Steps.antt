-- Steps of the proofs. Only contracts inside this crate cite them, and proofs above (`Appended`), so no reader has to
-- believe them.
pub mod Standing
pub mod Collecting
pub mod Comparing
pub mod Looking
pub mod Appended
