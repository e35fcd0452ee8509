-- Facts on the pieces of a text.
use Rattle.std.proofs.Common.{◌≡◌, ◌≢◌, ℕ, zero, suc, ◌<◌, cond, eqb, ◌||◌, ◌+◌, ◌≤◌, Bool, true, false, add-one, List, [], ◌∷◌, length, get_or, take, drop, refl, sym, ap, ◌∙◌, arith}
use Rattle.std.specs.Prelude.{nat_lt, Some, None, position}
use Rattle.std.specs.List.{list_any, position_or_len}
use Rattle.std.proofs.lemmas.List.Quantifiers.{position-Some}
use Rattle.std.proofs.lemmas.List.Sums.{fails_before_first}
use Rattle.std.proofs.lemmas.Bool.{eq-eqb, ne_eqb, eqb-true, eqb-false, ltb-false, cond-true, cond-false}
use Rattle.std.specs.List.{onto_first}
use Rattle.rs_request.specs.Items.{pieces, is_list_item, lists}

-- the first piece ends at the first separator
pub pieces_at : (c : ℕ) (xs : List ℕ) (i : ℕ) → i < length xs → get_or xs i 0 ≡ c → ((k : ℕ) → k < i → get_or xs k 0 ≢ c)
    → pieces c xs ≡ take i xs ∷ pieces c (drop (suc i) xs)
pieces_at c [] i inside at before = absurd (omega arith)
pieces_at c (b ∷ bytes) zero inside at before =
    cond-true (eqb b c) ([] ∷ pieces c bytes) (onto_first b (pieces c bytes)) (eq-eqb b c at)
pieces_at c (b ∷ bytes) (suc i) inside at before =
    cond-false (eqb b c) ([] ∷ pieces c bytes) (onto_first b (pieces c bytes)) (ne_eqb b c (before 0 (omega arith)))
    ∙ ap (onto_first b) (pieces_at c bytes i (omega arith) at (λ k below. before (suc k) (omega arith)))

-- with no separator there is one piece
pub pieces_whole : (c : ℕ) (xs : List ℕ) → ((k : ℕ) → k < length xs → get_or xs k 0 ≢ c) → pieces c xs ≡ xs ∷ []
pieces_whole c [] none = refl
pieces_whole c (b ∷ bytes) none =
    cond-false (eqb b c) ([] ∷ pieces c bytes) (onto_first b (pieces c bytes)) (ne_eqb b c (none 0 (omega arith)))
    ∙ ap (onto_first b) (pieces_whole c bytes (λ k below. none (suc k) (omega arith)))

apart : (c : ℕ) (xs : List ℕ) (n : ℕ) → n ≡ position_or_len (λ b. eqb b c) xs → (k : ℕ) → k < n → get_or xs k 0 ≢ c
apart c xs n e k below =
    eqb-false (get_or xs k 0) c (fails_before_first (λ b. eqb b c) xs k 0 (omega arith))

-- with a comma the first item stands before it, and the others after it
pub lists_at : (item xs : List ℕ) (i : ℕ) → position (λ b. eqb b 44) xs ≡ Some i
    → (i < length xs) × (lists item xs ≡ (is_list_item item (take i xs) || lists item (drop (i + 1) xs)))
unfolding lists
lists_at item xs i found =
    let at = position-Some (λ b. eqb b 44) xs i 0 found in
    let first : i ≡ position_or_len (λ b. eqb b 44) xs = by_cases (nat_lt (position_or_len (λ b. eqb b 44) xs) (length xs)) found in
    let cut = pieces_at 44 xs i at.0 (eqb-true (get_or xs i 0) 44 at.1) (apart 44 xs i first) in
    (at.0, ap (list_any (is_list_item item)) (cut ∙ ap (λ n. take i xs ∷ pieces 44 (drop n xs)) (sym (add-one i))))
  where
    by_cases : (t : Bool) → cond t (Some (position_or_len (λ b. eqb b 44) xs)) None ≡ Some i → i ≡ position_or_len (λ b. eqb b 44) xs
    by_cases true e = cc
    by_cases false e = cc

-- without a comma there is one item
pub lists_whole : (item xs : List ℕ) → position (λ b. eqb b 44) xs ≡ None → lists item xs ≡ is_list_item item xs
unfolding lists
lists_whole item xs none =
    let far : length xs ≤ position_or_len (λ b. eqb b 44) xs = by_cases (nat_lt (position_or_len (λ b. eqb b 44) xs) (length xs)) refl none in
    let whole = pieces_whole 44 xs (λ k below. apart 44 xs (position_or_len (λ b. eqb b 44) xs) refl k (omega arith)) in
    ap (list_any (is_list_item item)) whole ∙ or_none (is_list_item item xs)
  where
    by_cases : (t : Bool) → nat_lt (position_or_len (λ b. eqb b 44) xs) (length xs) ≡ t → cond t (Some (position_or_len (λ b. eqb b 44) xs)) None ≡ None → length xs ≤ position_or_len (λ b. eqb b 44) xs
    by_cases true e none = cc
    by_cases false e none = ltb-false _ _ e

    or_none : (t : Bool) → (t || false) ≡ t
    or_none true = refl
    or_none false = refl
