-- What the crates above cite: the one door to this crate's lemmas.
pub use Rattle.rs_cache.proofs.ClientRowLemmas.{made-none, made-more, made-rows, made-connected}
