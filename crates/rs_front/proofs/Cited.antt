-- What the crates above cite: the one door to this crate's lemmas.
pub use Rattle.rs_front.proofs.DueLemmas.{front_refl, front_trans, goes_later}
