-- The boxes of a drawing: their places and their order.
pub mod BoxPlaces
pub mod RisingBoxes
pub mod BoxOrder
pub mod SharedBoxes
