-- Steps of the proofs: how names are kept. Contracts of functions inside this crate cite it.
pub mod Folded
