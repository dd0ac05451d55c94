pub mod HeldMessages
pub mod Openings
pub mod MessageCoreValue
pub mod Held
pub mod CoreValue
pub mod Wholes
pub mod Steps
