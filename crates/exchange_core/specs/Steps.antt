-- Steps of the proofs: where the last evaluations stand, and what they have to be.
-- Only contracts inside this crate cite them, and proofs above (`Opened`, `Fresh`), so no reader has to believe them.
pub mod KnowingMessages
pub mod Outliving
pub mod Knowing
pub mod Opened
pub mod Fresh
