pub mod Plan
pub mod CodeValue
pub mod OutputNames
pub mod Steps
