pub mod Records
pub mod Rows
pub mod RowReadings
pub mod RowHeads
