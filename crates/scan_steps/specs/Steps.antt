-- What a scan does, step by step. The contracts of this crate and the proofs of `power_flow` cite it; what a scan means
-- is said there without it.
pub mod BoxSteps
pub mod Contacts
pub mod Passing
pub mod Sources
pub mod Seats
pub mod Storing
