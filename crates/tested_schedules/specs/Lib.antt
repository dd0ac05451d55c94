pub mod Expectations
pub mod TestedText
pub mod Tested
pub mod TestedLines
pub mod Untested
pub mod Steps
