pub mod Cited
mod RepliedLemmas
mod ReplyLemmas
mod ReplySpellingLemmas
mod ReplySteps
mod ReplyTakenLemmas
mod RunLemmas
mod StatusLemmas
