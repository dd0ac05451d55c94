-- Elements that are shown to have power.
pub mod Reading
pub mod Comings
pub mod Stacked
pub mod UprightsOn
pub mod NetworkPower
pub mod ScanPower
