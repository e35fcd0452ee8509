-- What the crates above cite: the one door to this crate's lemmas.
pub use Rattle.rs_path.proofs.AsciiLemmas.{kind_text, tag_text}
pub use Rattle.rs_path.proofs.BelowLemmas.{is_below-trans}
pub use Rattle.rs_path.proofs.ChildLemmas.{child_towards-leads, child_towards-child_at}
pub use Rattle.rs_path.proofs.KeyLemmas.{slice_cmp-key_of}
pub use Rattle.rs_path.proofs.NameLemmas.{name_without_slash, name_text}
pub use Rattle.rs_path.proofs.RoundTrips.{plain_text-plain_reading, plain_reading-plain_text}
pub use Rattle.rs_path.proofs.TextLemmas.{length-plain_text}
