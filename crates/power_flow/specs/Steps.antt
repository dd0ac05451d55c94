-- Steps of the proofs: the steps that a network is made into, what its names are bound to, and what is stored.
-- Contracts of functions inside this crate cite them, and the invariant of a ladder; what is handed up, a ladder, its
-- states and a scan, is said without them.
pub mod BoxStores
pub mod BoxTable
pub mod Circuit
pub mod CoilStores
pub mod Columns
pub mod Comings
pub mod Edges
pub mod Fused
pub mod LadderCircuits
pub mod NameSources
pub mod RowEnds
pub mod Snapshots
pub mod ShownScans
