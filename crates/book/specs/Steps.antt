-- Steps of the proofs: the tests and the tables of a book.
-- Only contracts inside this crate cite them, so no reader has to believe them.
pub mod Deciding
pub mod Ledger
