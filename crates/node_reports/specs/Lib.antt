pub mod Causes
pub mod Codes
pub mod Commands
pub mod Journals
pub mod Stations
pub mod RunFaults
pub mod Reports
pub mod Steps
