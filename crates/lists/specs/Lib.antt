pub mod Alike
pub mod Among
pub mod Items
pub mod Rising
