pub mod Grants
pub mod Standing
pub mod Sights
pub mod Decisions
pub mod Turns
pub mod Preparations
pub mod Openings
pub mod Regrants
