-- Each entry of a log fits those before it, and the log is consistent: the theorem.
pub mod Fitting
pub mod NotBack
pub mod AllFits
pub mod Entered
pub mod Places
pub mod Makings
