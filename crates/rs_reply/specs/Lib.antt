pub mod Replied
pub mod Replies
pub mod ReplySpelling
pub mod ReplyTexts
pub mod Runs
pub mod Writing
