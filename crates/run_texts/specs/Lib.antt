pub mod RunCommands
pub mod ReportText
pub mod AuditText
pub mod Steps
