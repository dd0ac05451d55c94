-- Boxes and their pins.
pub mod FaultyPins
pub mod PinRows
pub mod RowPins
pub mod Corners
pub mod WholeBoxes
pub mod RowBoxes
