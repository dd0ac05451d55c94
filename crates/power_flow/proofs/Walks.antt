-- Walks of power through the rows of a network.
pub mod PowerWalks
pub mod Leading
pub mod NetworkRows
pub mod Uprights
pub mod OnPlaces
pub mod Sweeping
