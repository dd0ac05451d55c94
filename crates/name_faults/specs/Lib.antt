pub mod PinKinds
pub mod Lookup
pub mod Literals
pub mod BindFaults
pub mod Binding
pub mod Findings
pub mod Guess
pub mod Steps
