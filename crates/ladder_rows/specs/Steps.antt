-- Steps of the proofs: what is known of rows and boxes halfway. Public contracts of this crate cite them, and the
-- reading of drawings stands on them, but no contract of that reading itself does.
pub mod RowBoxes
pub mod Search
