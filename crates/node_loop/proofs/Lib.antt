mod ByOne
mod Turning
mod Unmade
mod Telling
