-- Steps of the proofs: the faults as the bodies find them, and what is known of a network whose names are in order.
-- Contracts inside this crate cite them, and of `Named` those on which the tables of `power_flow` stand.
pub mod BoxFindings
pub mod Earlier
pub mod ElementFindings
pub mod Guessing
pub mod Named
