pub mod WorkedFigures
pub mod NoLadders
