pub mod Cited
mod NameLemmas
mod AsciiLemmas
mod ReadingLemmas
mod EscapeLemmas
mod RoundTrips
mod TextLemmas
mod PathLemmas
mod OrderLemmas
mod ItemLemmas
mod KeyLemmas
mod BelowLemmas
mod ChildLemmas
mod PrefixLemmas
