-- What a thread keeps of its resource. Only contracts inside this crate cite it, so no reader has to believe it.
pub mod Entering
pub mod Keeping
pub mod States
pub mod Working
