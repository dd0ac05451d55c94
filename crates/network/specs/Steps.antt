-- Steps of the proofs: how the elements of a drawing are listed, joined and ranked.
-- Only what stands inside this crate cites them; what is handed up is said without them.
pub mod Corners
pub mod Joined
pub mod Listed
pub mod Listing
pub mod Numbers
pub mod Pairs
pub mod Ranks
pub mod Rows
pub mod Symbols
pub mod Tables
pub mod Twice
