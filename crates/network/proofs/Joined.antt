-- Elements that are joined.
pub mod LaidOut
pub mod RowTables
pub mod LinkedPairs
pub mod Spreading
