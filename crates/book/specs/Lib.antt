pub mod Fits
pub mod Presents
pub mod Book
pub mod Laws
pub mod Steps
