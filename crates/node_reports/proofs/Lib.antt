mod TicketMarks
pub mod Greatest
pub mod Standing
pub mod Stations
pub mod JournalRuns
pub mod Remaking
pub mod AskedAlike
pub mod Collecting
pub mod Reporting
pub mod Faults
pub mod Stopping
pub mod Walking
pub mod Numbered
pub mod Telling
pub mod Hearing
pub mod ByPlant
pub mod Looking
