pub mod LadderSystems
pub mod Remembering
pub mod Steps
