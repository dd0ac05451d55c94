pub mod Naming
pub mod Reading
pub mod Telling
pub mod Answering
pub mod Reaching
pub mod Zeros
