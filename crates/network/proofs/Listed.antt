-- Elements of a drawing in a list.
pub mod Sharing
pub mod FoundSymbols
pub mod ElementOrder
