-- Steps of the proofs. Only contracts inside this crate cite them, and proofs of the crates above, so no reader has to
-- believe them.
pub mod Reading
pub mod Answering
pub mod Growing
pub mod Unanswered
pub mod ByOne
pub mod LineTaking
pub mod Keeping
pub mod Sent
pub mod Together
pub mod Synced
