pub mod ContinuesLine
pub mod LooseFiles
pub mod Rows
