pub mod Cited
mod SplitLemmas
mod ScopeLemmas
mod ReadingLemmas
mod ReachLemmas
mod RootLemmas
mod TokenLemmas
