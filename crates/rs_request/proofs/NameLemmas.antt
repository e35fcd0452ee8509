-- Facts on names without case.
use Rattle.std.proofs.Common.{◌≡◌, ℕ, Bool, true, false, List, map, length, refl, sym, ap, ◌∙◌}
use Rattle.std.specs.Prelude.{bytes_eq, IsTrue, ◌↔◌}
use Rattle.std.specs.Char.{to_ascii_lowercase}
use Rattle.std.proofs.lemmas.List.{length-map}
use Rattle.std.proofs.lemmas.Bool.Decides.{same_from_decides}
use Rattle.std.proofs.lemmas.Slice.Eq.{bytes_eq-Decides}
use Rattle.rs_request.specs.Names.{same_name}

pub same_by_test : (r : Bool) (a b : List ℕ) → IsTrue r ↔ (a ≡ b) → r ≡ bytes_eq a b
same_by_test r a b h = same_from_decides r (bytes_eq a b) (h.0, h.1) (bytes_eq-Decides a b)

-- names of two lengths are two names
pub two_lengths : (a b : List ℕ) → (length a ≡ length b → ⊥) → same_name a b ≡ false
unfolding same_name
two_lengths a b other = by_test (bytes_eq (map to_ascii_lowercase a) (map to_ascii_lowercase b)) refl
  where
    by_test : (t : Bool) → bytes_eq (map to_ascii_lowercase a) (map to_ascii_lowercase b) ≡ t → t ≡ false
    by_test true e =
        let same = ap length ((bytes_eq-Decides (map to_ascii_lowercase a) (map to_ascii_lowercase b)).0 e) in
        absurd (other (sym (length-map a to_ascii_lowercase) ∙ same ∙ length-map b to_ascii_lowercase))
    by_test false e = refl
