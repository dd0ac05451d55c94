-- Rows of characters.
pub mod TextRows
pub mod Runs
pub mod Widths
pub mod Limits
pub mod AsciiCharacters
pub mod FirstPlaces
