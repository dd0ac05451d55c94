pub mod InputValues
pub mod Induction
pub mod ClausesOver
pub mod RunsOn
