-- Faults, and which of them is the first.
pub mod WellDrawn
pub mod IllDrawn
pub mod FirstPlaces
pub mod FirstFaults
pub mod Faultless
