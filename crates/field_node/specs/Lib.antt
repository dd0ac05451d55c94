pub mod FieldAnswers
pub mod FieldNodes
pub mod Laws
