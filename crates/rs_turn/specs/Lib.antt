pub mod Limits
pub mod Entries
pub mod Origins
pub mod Rule
pub mod Plays
pub mod Places
pub mod Sitting
pub mod TookTurn
