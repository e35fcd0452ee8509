-- What the crates above cite: the one door to this crate's lemmas.
pub use Rattle.rs_scope.proofs.ReadingLemmas.{HasScopes-from, scopes_reading-text}
pub use Rattle.rs_scope.proofs.TokenLemmas.{HasToken-from}
