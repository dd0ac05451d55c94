pub mod Walks
pub mod Networks
pub mod Boxes
pub mod Ladders
pub mod ShownPower
