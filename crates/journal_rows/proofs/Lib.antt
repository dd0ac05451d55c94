pub mod GoingOn
pub mod Telling
