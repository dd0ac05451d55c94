pub mod SymbolKinds
pub mod Places
pub mod Names
pub mod Faults
pub mod Picture
pub mod FirstFault
pub mod Steps
