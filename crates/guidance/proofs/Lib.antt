pub mod Told
pub mod Returns
