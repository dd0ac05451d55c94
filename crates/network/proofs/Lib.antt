pub mod Basics
pub mod Elements
pub mod Spots
pub mod Listed
pub mod Joined
pub mod Ordered
pub mod Sought
pub mod WholeGraph
