pub mod Cycle
pub mod Laws
pub mod Field
pub mod FieldTexts
pub mod Origins
pub mod Steps
