pub mod RunText
pub mod AuditCommand
pub mod NodeCommand
pub mod Clashes
pub mod UsedFiles
pub mod Files
pub mod Steps
pub mod JournalHead
