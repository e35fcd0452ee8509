pub mod Descriptions
pub mod FolderTokens
pub mod FolderReadings
pub mod Keys
