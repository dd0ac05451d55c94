-- What stands at a place, and the picture of all places.
pub mod LaidPlaces
pub mod LaidMarks
pub mod SymbolPlaces
pub mod SymbolItems
pub mod RowMarks
pub mod FinePlaces
pub mod PictureMarks
pub mod Soundness
