pub mod LowValues
pub mod Built
pub mod BitLaws
pub mod WordLaws
pub mod Fixed
