pub mod AndLaws
pub mod Built
pub mod ClausesPut
pub mod Growing
pub mod ValuesOf
