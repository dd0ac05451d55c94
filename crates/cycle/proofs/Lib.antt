mod Counting
mod Cycling
mod Fairness
mod Planned
mod Telling
