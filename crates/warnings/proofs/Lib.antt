pub mod SameNames
pub mod NearEnds
pub mod SlipPlaces
pub mod LaterCoils
pub mod WarningOrder
pub mod FaultyNetworks
pub mod WarnedBodies
