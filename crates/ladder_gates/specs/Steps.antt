-- Steps of the proofs.
pub mod StepsScanned
