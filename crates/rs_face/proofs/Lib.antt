pub mod Cited
mod CauseLemmas
mod CourseLemmas
mod ToldLemmas
