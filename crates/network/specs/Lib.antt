pub mod Links
pub mod Apart
pub mod Table
pub mod GraphValue
pub mod Networks
pub mod Steps
