-- Steps of the proofs: what is known of a text halfway. Only contracts inside this crate cite them, so no reader has
-- to believe them.
pub mod Gaps
pub mod Lexing
