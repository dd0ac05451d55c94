-- The tests and the tables of a book.
pub mod Presents
pub mod Deciding
pub mod Falling
pub mod Misfits
pub mod Ledgers
pub mod Ledgered
