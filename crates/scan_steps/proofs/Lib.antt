pub mod KeptKinds
pub mod PairSteps
pub mod BoxesStepping
pub mod Seating
pub mod SeatsGrowing
pub mod SameBools
pub mod Digesting
pub mod BoolSeats
