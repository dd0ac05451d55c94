-- Steps of the proofs: what is known of a plant halfway. Only contracts inside this crate cite them,
-- so no reader has to believe them.
pub mod Drafts
pub mod FedUses
pub mod Found
pub mod Outputs
pub mod Reading
pub mod SourceFaults
