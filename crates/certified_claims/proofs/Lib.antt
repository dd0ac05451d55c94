pub mod Leading
pub mod Answering
pub mod Joining
pub mod Telling
pub mod Summing
pub mod Naming
pub mod RunsMet
