pub mod Commanding
pub mod Planning
pub mod Reporting
pub mod Replaying
pub mod ReportTelling
