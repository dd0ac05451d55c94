-- Ladders: how they are bound, and that a scan of one has one result.
pub mod EqualBits
pub mod Scanning
pub mod Stepping
pub mod Determinism
pub mod Binds
pub mod OneLadder
pub mod FittingStates
pub mod Snapshots
pub mod AllOff
