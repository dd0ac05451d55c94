pub mod Dots
pub mod FirstFindings
pub mod NameFaults
pub mod BoxesFaults
pub mod FaultsFound
pub mod NamedNetworks
pub mod WorkedFaults
pub mod GuessedNames
