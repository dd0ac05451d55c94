pub mod Bits
pub mod Networks
pub mod Results
pub mod Storing
