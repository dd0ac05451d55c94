pub mod Matching
pub mod TracedRuns
pub mod Ended
pub mod WarnedEnds
