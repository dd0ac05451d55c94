pub mod Places
pub mod FoldedNames
