-- Two digests compared byte by byte, to the end.
use Rattle.std.proofs.Common.{◌≡◌, ◌≢◌, ℕ, ◌<◌, ◌≤◌, ◌+◌, true, false, not, cond, Bool, ◌==◌, List, [], ◌∷◌, suc, length, get_or, refl, sym, ap, arith, below_more}
use Rattle.std.specs.Str.{bytes_eq}
use Rattle.std.proofs.lemmas.Bool.Decides.{nat_tests}
use Rattle.std.proofs.lemmas.Slice.Eq.{bytes_eq-Decides}

-- so many of the bytes before an index differ: with none, all are the same, else one is another
pub record Compared (a b : List ℕ) (i differing : ℕ) : Type 0 where
  pub few : differing ≤ i
  pub same : differing ≡ 0 → (k : ℕ) → k < i → get_or a k 0 ≡ get_or b k 0
  pub other : 0 < differing → (k : ℕ) × ((k < i) × (get_or a k 0 ≢ get_or b k 0))

pub Compared-first : (a b : List ℕ) → Compared a b 0 0
Compared-first a b = record { few = omega arith; same = λ none k below. absurd (omega arith); other = λ some. absurd (omega arith) }

-- the count goes up where the bytes differ
abbrev pub more_where : Bool → ℕ → ℕ
more_where apart count = count + cond apart 1 0

step_by : (same : Bool) (a b : List ℕ) (i differing : ℕ) → (get_or a i 0 == get_or b i 0) ≡ same → Compared a b i differing
    → Compared a b (i + 1) (more_where (not same) differing)
step_by true a b i differing test so =
    let equal : get_or a i 0 ≡ get_or b i 0 = grind (arith, nat_tests) in
    record {
      few = omega (arith, so.few);
      same = λ none. let no_more : differing ≡ 0 = omega arith in below_more _ _ (so.same no_more) equal;
      other = λ some. let more : 0 < differing = omega arith in let at = so.other more in let within = at.1.0 in (at.0, (omega (arith, within), at.1.1));
    }
step_by false a b i differing test so =
    let apart : get_or a i 0 ≢ get_or b i 0 = λ equal. grind (arith, nat_tests) in
    record {
      few = omega (arith, so.few);
      same = λ none. absurd (omega arith);
      other = λ some. (i, (omega arith, apart));
    }

pub Compared-step : (a b : List ℕ) (i differing : ℕ) → Compared a b i differing
    → Compared a b (i + 1) (more_where (not (get_or a i 0 == get_or b i 0)) differing)
Compared-step a b i differing so = step_by (get_or a i 0 == get_or b i 0) a b i differing refl so

equal_lists : (a b : List ℕ) → length a ≡ length b → ((k : ℕ) → k < length a → get_or a k 0 ≡ get_or b k 0) → a ≡ b
equal_lists [] [] long each = refl
equal_lists [] (y ∷ b) long each = absurd (omega arith)
equal_lists (x ∷ a) [] long each = absurd (omega arith)
equal_lists (x ∷ a) (y ∷ b) long each =
    let first : x ≡ y = each 0 (omega arith) in
    let others : a ≡ b = equal_lists a b (omega arith) (λ k below. each (suc k) (omega arith)) in
    cc

differs : (test : Bool) (a b : List ℕ) → bytes_eq a b ≡ test → (a ≢ b) → false ≡ test
differs true a b is apart = absurd (apart ((bytes_eq-Decides a b).0 is))
differs false a b is apart = refl

answer_by : (test : Bool) (a b : List ℕ) (i differing : ℕ) → (differing == 0) ≡ test → Compared a b i differing → length a ≡ i → length b ≡ i
    → test ≡ bytes_eq a b
answer_by true a b i differing none so own other =
    let zero_is : differing ≡ 0 = grind (arith, nat_tests) in
    sym ((bytes_eq-Decides a b).1 (equal_lists a b (omega arith) (λ k below. so.same zero_is k (omega arith))))
answer_by false a b i differing some so own other =
    let more : 0 < differing = grind (arith, nat_tests) in
    let at = so.other more in
    differs (bytes_eq a b) a b refl (λ same. at.1.1 (ap (λ (xs : List ℕ). get_or xs at.0 0) same))

pub Compared-all : (a b : List ℕ) (i differing : ℕ) → Compared a b i differing → length a ≡ i → length b ≡ i → (differing == 0) ≡ bytes_eq a b
Compared-all a b i differing so own other = answer_by (differing == 0) a b i differing refl so own other
