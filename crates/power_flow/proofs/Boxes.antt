-- Boxes: what their pins are bound to, and what they store.
pub mod KeptSlots
pub mod BlocksStored
pub mod BoxesSources
pub mod BoxesMeaning
pub mod CircuitScans
pub mod BoxesBinding
pub mod BoxesTable
pub mod KindsStored
