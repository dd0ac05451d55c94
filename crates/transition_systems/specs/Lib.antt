pub mod Systems
pub mod Runs
pub mod Certificates
pub mod Steps
