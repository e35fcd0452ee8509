-- What the crates above cite: the one door to this crate's lemmas.
pub use Rattle.rs_rules.proofs.DocLemmas.{same_itself, same_from, not_same, is_there-quiet}
pub use Rattle.rs_rules.proofs.FindLemmas.{find-filter_not, find-filter_other, any-filter_other, all-filter}
pub use Rattle.rs_rules.proofs.SoundLaws.{distinct-after}
