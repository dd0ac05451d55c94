-- Steps of the proofs. Only contracts inside this crate cite them, and proofs above (`Histories`), so no reader has to
-- believe them.
pub mod Histories
pub mod Fresh
pub mod Nodes
pub mod Tables
pub mod ReadingLines
pub mod Telling
pub mod Simulating
