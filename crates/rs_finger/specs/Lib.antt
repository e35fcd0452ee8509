pub mod Accounts
pub mod Answers
pub mod JrdReadings
pub mod Jrds
pub mod Queries
