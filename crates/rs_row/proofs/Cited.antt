-- What the crates above cite: the one door to this crate's lemmas.
pub use Rattle.rs_row.proofs.FieldLemmas.{At, fixed_in-front, meant_1_in-text, meant_2_in-text, path_meant-text, document_meant-text, kind_meant-text, tag_meant-text, optional_tag_meant-some, scopes_meant-text, u16_in-number, u64_in-number, body_in-text}
pub use Rattle.rs_row.proofs.CanonLemmas.{AreBytes, Went, went, IsPart, fixed_in-ok, Begins, Meant, meant_1_in-ok, meant_2_in-ok, path_is, document_is, kind_is, scopes_is, u16_in-ok, u64_in-ok, body_in-ok, IsByte, byte_meant-ok, whole-ok}
