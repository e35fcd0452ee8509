-- What the crates above cite: the one door to this crate's lemmas.
pub use Rattle.rs_face.proofs.CauseLemmas.{Rose-later, Rose-kept, Rose-trans, HasCause-later}
pub use Rattle.rs_face.proofs.CourseLemmas.{AppendsFront-longer, Writes-kept}
pub use Rattle.rs_face.proofs.ToldLemmas.{
  Appends-nil,
  Appends-trans,
  Appends-kept,
  Appends-told,
  AppendsFront-kept,
  AppendsFront-whole,
  AppendsFront-after,
  Consumes-nil,
  Consumes-trans,
  Consumes-kept,
  Consumes-whole,
  Consumes-told,
  Keeps-refl,
  Keeps-trans,
  StaysTold-refl,
  StaysTold-trans,
  IfSome-both,
  prepend_known-append,
  take-next_row,
  with_rows-nil,
  with_rows-append,
}
