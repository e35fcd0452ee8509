pub mod Cited
mod FieldLemmas
mod CanonLemmas
mod OpeningLemmas
