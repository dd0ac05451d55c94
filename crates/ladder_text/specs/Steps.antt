-- Steps of the proofs: what the reading knows halfway. Only contracts inside this crate cite them, so no reader has to
-- believe them.
pub mod Pairs
pub mod RowMarks
pub mod RowSpans
pub mod Search
