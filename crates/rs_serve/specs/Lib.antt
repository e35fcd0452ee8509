pub mod OneHistories
pub mod Runs
pub mod Servings
pub mod Staffs
