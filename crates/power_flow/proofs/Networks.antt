-- A network and the steps that it is made into.
pub mod CircuitOf
pub mod ElementSteps
pub mod FewElements
pub mod Fusing
pub mod LeastRoom
pub mod SameNetworks
pub mod ColumnSteps
