-- What the crates above cite: the one door to this crate's lemmas.
pub use Rattle.rs_form.proofs.FieldLemmas.{form_back}
