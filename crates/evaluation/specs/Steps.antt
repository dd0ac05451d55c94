-- Steps of the proofs. Only contracts inside this crate cite them, and proofs above (`Facts`), so no reader has to
-- believe them.
pub mod Contents
pub mod Filling
pub mod InputWords
pub mod Warming
pub mod Facts
