pub mod Replacing
pub mod RunExplaining
pub mod AuditExplaining
pub mod KeeperNames
