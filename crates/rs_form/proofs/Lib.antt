pub mod Cited
mod TextBytes
mod FieldLemmas
