-- Facts on the search for an empty line.
use Rattle.std.proofs.Common.{◌≡◌, ℕ, zero, suc, ◌+◌, ◌<◌, ◌≤◌, List, [], ◌∷◌, ◌++◌, length, take, drop, cond, eqb, Bool, true, false, Option, Some, None, refl, sym, ap, ◌∙◌, subst, arith}
use Rattle.std.specs.Prelude.{option_map, slice_index}
use Rattle.std.proofs.lemmas.Bool.{cond-true, cond-false, eq-eqb, eqb-true, ne_eqb}
use Rattle.std.proofs.Math.Seq.{take-add}
use Rattle.std.proofs.lemmas.List.{length-take, length-take-le, take-append-drop}
use Rattle.std.specs.Option.{option_map_or, option_and_then}
use Rattle.memchr.specs.Find.{IsFirstByte, is_byte}
use Rattle.rs_request.specs.declared.search.Spot.TheVariants.{Within, Fresh}
use Rattle.rs_request.specs.declared.search.Spot.{Spot}
use Rattle.rs_request.specs.Lines.{next_spot, first_empty_line, spot_after, first_line}

-- where the search goes on after a byte, and what it finds there
abbrev goes_on : List ℕ → Option Spot → Option Spot
goes_on xs o = option_and_then (λ next. spot_after next xs) o

abbrev finds : List ℕ → Option Spot → Option ℕ
finds xs o = option_map_or (λ next. option_map (λ n. n + 1) (first_empty_line next xs)) o (Some 1)

-- the byte after them ends the first empty line
pub empty_line_found : (s t : Spot) (xs : List ℕ) (b : ℕ) (ys : List ℕ) → spot_after s xs ≡ Some t → next_spot t b ≡ None
    → first_empty_line s (xs ++ b ∷ ys) ≡ Some (length xs + 1)
empty_line_found s t [] b ys h e =
    let same : s ≡ t = cc in ap (finds ys) (ap (λ u. next_spot u b) same ∙ e)
empty_line_found s t (x ∷ xs) b ys h e = step (next_spot s x) (λ u g. empty_line_found u t xs b ys g e) h
  where
    step : (o : Option Spot) → ((u : Spot) → spot_after u xs ≡ Some t → first_empty_line u (xs ++ b ∷ ys) ≡ Some (length xs + 1))
        → goes_on xs o ≡ Some t → finds (xs ++ b ∷ ys) o ≡ Some (suc (length xs) + 1)
    step None again h = cc
    step (Some u) again h =
        let n : length xs + 1 + 1 ≡ suc (length xs) + 1 = omega arith in
        ap (option_map (λ n. n + 1)) (again u h) ∙ ap Some n

-- none of them ends one
pub empty_line_none : (s t : Spot) (xs : List ℕ) → spot_after s xs ≡ Some t → first_empty_line s xs ≡ None
empty_line_none s t [] h = refl
empty_line_none s t (x ∷ xs) h = step (next_spot s x) (λ u g. empty_line_none u t xs g) h
  where
    step : (o : Option Spot) → ((u : Spot) → spot_after u xs ≡ Some t → first_empty_line u xs ≡ None)
        → goes_on xs o ≡ Some t → finds xs o ≡ None
    step None again h = cc
    step (Some u) again h = ap (option_map (λ n. n + 1)) (again u h)

-- more bytes after those
pub spot_more : (s t : Spot) (xs ys : List ℕ) → spot_after s xs ≡ Some t → spot_after s (xs ++ ys) ≡ spot_after t ys
spot_more s t [] ys h =
    let same : s ≡ t = cc in ap (λ u. spot_after u ys) same
spot_more s t (x ∷ xs) ys h = step (next_spot s x) (λ u g. spot_more u t xs ys g) h
  where
    step : (o : Option Spot) → ((u : Spot) → spot_after u xs ≡ Some t → spot_after u (xs ++ ys) ≡ spot_after t ys)
        → goes_on xs o ≡ Some t → goes_on (xs ++ ys) o ≡ spot_after t ys
    step None again h = cc
    step (Some u) again h = again u h

-- the first empty line after those
pub empty_line_append : (s t : Spot) (xs ys : List ℕ) (n : ℕ) → spot_after s xs ≡ Some t → first_empty_line t ys ≡ Some n
    → first_empty_line s (xs ++ ys) ≡ Some (length xs + n)
empty_line_append s t [] ys n h e =
    let same : s ≡ t = cc in
    let none : n ≡ 0 + n = omega arith in
    ap (λ u. first_empty_line u ys) same ∙ e ∙ ap Some none
empty_line_append s t (x ∷ xs) ys n h e = step (next_spot s x) (λ u g. empty_line_append u t xs ys n g e) h
  where
    step : (o : Option Spot) → ((u : Spot) → spot_after u xs ≡ Some t → first_empty_line u (xs ++ ys) ≡ Some (length xs + n))
        → goes_on xs o ≡ Some t → finds (xs ++ ys) o ≡ Some (suc (length xs) + n)
    step None again h = cc
    step (Some u) again h =
        let m : length xs + n + 1 ≡ suc (length xs) + n = omega arith in
        ap (option_map (λ n. n + 1)) (again u h) ∙ ap Some m

-- the same of bytes that were cut at a place
pub spot_after_place : (start s next : Spot) (xs rest : List ℕ) (at n : ℕ) → rest ≡ drop at xs → spot_after start (take at xs) ≡ Some s
    → spot_after s (take n rest) ≡ Some next → spot_after start (take (at + n) xs) ≡ Some next
spot_after_place start s next xs rest at n cut before after =
    ap (spot_after start) (take-add at n xs) ∙ spot_more start s (take at xs) (take n (drop at xs)) before
    ∙ ap (λ ys. spot_after s (take n ys)) (sym cut) ∙ after

pub empty_line_place : (start s : Spot) (xs rest : List ℕ) (at n : ℕ) → rest ≡ drop at xs → at ≤ length xs → spot_after start (take at xs) ≡ Some s
    → first_empty_line s rest ≡ Some n → first_empty_line start xs ≡ Some (at + n)
empty_line_place start s xs rest at n cut within before found =
    ap (first_empty_line start) (sym (take-append-drop at xs))
    ∙ empty_line_append start s (take at xs) (drop at xs) n before (ap (first_empty_line s) (sym cut) ∙ found)
    ∙ ap (λ m. Some (m + n)) (length-take-le at xs within)

-- what a found line says: it isn't empty, lies within the bytes, and stays found whatever follows
pub record IsFound (s : Spot) (xs : List ℕ) (n : ℕ) : Type 0 where
  pub some : 0 < n
  pub within : n ≤ length xs
  pub stays : (ys : List ℕ) → first_empty_line s (xs ++ ys) ≡ Some n

one_more : (u : Spot) (xs : List ℕ) (n : ℕ) (m : Option ℕ) → first_empty_line u xs ≡ m → option_map (λ n. n + 1) m ≡ Some n
    → (k : ℕ) × (first_empty_line u xs ≡ Some k) × (k + 1 ≡ n)
one_more u xs n None e h = cc
one_more u xs n (Some k) e h = (k, e, cc)

pub empty_line_is_found : (s : Spot) (xs : List ℕ) (n : ℕ) → first_empty_line s xs ≡ Some n → IsFound s xs n
empty_line_is_found s [] n h = cc
empty_line_is_found s (x ∷ xs) n h =
    let r = at (next_spot s x) (λ u k g. empty_line_is_found u xs k g) h in
    record { some = r.0; within = r.1; stays = r.2 }
  where
    at : (o : Option Spot) → ((u : Spot) (k : ℕ) → first_empty_line u xs ≡ Some k → IsFound u xs k) → finds xs o ≡ Some n
        → (0 < n) × (n ≤ suc (length xs)) × ((ys : List ℕ) → finds (xs ++ ys) o ≡ Some n)
    at None again h =
        let one : 1 ≡ n = cc in
        (omega arith, omega arith, λ ys. h)
    at (Some u) again h =
        let k = one_more u xs n (first_empty_line u xs) refl h in
        let rest = again u k.0 k.1 in
        let w = rest.within in
        let e = k.2 in
        (omega arith, omega arith, λ ys. ap (option_map (λ n. n + 1)) (rest.stays ys) ∙ ap Some k.2)

-- ---- the first LF

map_none : (m : Option ℕ) → option_map (λ n. n + 1) m ≡ None → m ≡ None
map_none None e = refl
map_none (Some k) e = cc

-- the first LF after bytes without one
pub first_line_after : (xs ys : List ℕ) (o : Option ℕ) → first_line xs ≡ None → first_line ys ≡ o
    → first_line (xs ++ ys) ≡ option_map (λ n. length xs + n) o
first_line_after [] ys None none e = e
first_line_after [] ys (Some n) none e =
    let same : n ≡ 0 + n = omega arith in e ∙ ap Some same
first_line_after (x ∷ xs) ys o none e = step (eqb x 10) none (λ later. first_line_after xs ys o later e)
  where
    one_more_of : (o : Option ℕ) → option_map (λ n. n + 1) (option_map (λ n. length xs + n) o) ≡ option_map (λ n. suc (length xs) + n) o
    one_more_of None = refl
    one_more_of (Some n) =
        let same : length xs + n + 1 ≡ suc (length xs) + n = omega arith in ap Some same

    step : (t : Bool) → cond t (Some 1) (option_map (λ n. n + 1) (first_line xs)) ≡ None
        → (first_line xs ≡ None → first_line (xs ++ ys) ≡ option_map (λ n. length xs + n) o)
        → cond t (Some 1) (option_map (λ n. n + 1) (first_line (xs ++ ys))) ≡ option_map (λ n. suc (length xs) + n) o
    step true none again = cc
    step false none again = ap (option_map (λ n. n + 1)) (again (map_none (first_line xs) none)) ∙ one_more_of o

-- the same of bytes that were cut at a place
pub first_line_place : (xs rest : List ℕ) (at : ℕ) (o : Option ℕ) → rest ≡ drop at xs → at ≤ length xs → first_line (take at xs) ≡ None
    → first_line rest ≡ o → first_line xs ≡ option_map (λ n. at + n) o
first_line_place xs rest at o cut within none found =
    ap first_line (sym (take-append-drop at xs))
    ∙ first_line_after (take at xs) (drop at xs) o none (ap first_line (sym cut) ∙ found)
    ∙ ap (λ m. option_map (λ n. m + n) o) (length-take-le at xs within)

line_later : (xs : List ℕ) (n : ℕ) (o : Option ℕ) → first_line xs ≡ o → option_map (λ n. n + 1) o ≡ Some n → (k : ℕ) × (first_line xs ≡ Some k) × (suc k ≡ n)
line_later xs n None e h = cc
line_later xs n (Some k) e h =
    let one : k + 1 ≡ n = cc in (k, e, omega (arith, one))

-- a line from within it to its end
pub line_to_end : (xs : List ℕ) (n : ℕ) → first_line xs ≡ Some n → spot_after Within (take n xs) ≡ Some Fresh
line_to_end [] n h = cc
line_to_end (x ∷ xs) n h = step (eqb x 10) (λ k g. line_to_end xs k g) refl h
  where
    step : (t : Bool) → ((k : ℕ) → first_line xs ≡ Some k → spot_after Within (take k xs) ≡ Some Fresh)
        → eqb x 10 ≡ t → cond t (Some 1) (option_map (λ n. n + 1) (first_line xs)) ≡ Some n → spot_after Within (take n (x ∷ xs)) ≡ Some Fresh
    step true again e h =
        let one : 1 ≡ n = cc in
        subst (λ (m : ℕ). spot_after Within (take m (x ∷ xs)) ≡ Some Fresh) one (ap (goes_on []) (cond-true (eqb x 10) (Some Fresh) (Some Within) e))
    step false again e h =
        let k = line_later xs n (first_line xs) refl h in
        subst (λ (m : ℕ). spot_after Within (take m (x ∷ xs)) ≡ Some Fresh) k.2
        (ap (goes_on (take k.0 xs)) (cond-false (eqb x 10) (Some Fresh) (Some Within) e) ∙ again k.0 k.1)

-- a line that doesn't end
pub line_without_end : (xs : List ℕ) → first_line xs ≡ None → spot_after Within xs ≡ Some Within
line_without_end [] h = refl
line_without_end (x ∷ xs) h = step (eqb x 10) (λ g. line_without_end xs g) refl h
  where
    step : (t : Bool) → (first_line xs ≡ None → spot_after Within xs ≡ Some Within) → eqb x 10 ≡ t → cond t (Some 1) (option_map (λ n. n + 1) (first_line xs)) ≡ None → goes_on xs (cond (eqb x 10) (Some Fresh) (Some Within)) ≡ Some Within
    step true again e h = cc
    step false again e h = ap (goes_on xs) (cond-false (eqb x 10) (Some Fresh) (Some Within) e) ∙ again (map_none (first_line xs) h)

-- bytes without LF
no_line : (xs : List ℕ) → ((k : ℕ) → k < length xs → slice_index xs k ≡ 10 → ⊥) → first_line xs ≡ None
no_line [] other = refl
no_line (x ∷ xs) other =
    cond-false (eqb x 10) (Some 1) (option_map (λ n. n + 1) (first_line xs)) (ne_eqb x 10 (λ e. other 0 (omega arith) e))
    ∙ ap (option_map (λ n. n + 1)) (no_line xs (λ k within e. other (suc k) (omega arith) e))

-- the first LF at its index
line_at : (xs : List ℕ) (k : ℕ) → k < length xs → ((j : ℕ) → j < k → slice_index xs j ≡ 10 → ⊥) → slice_index xs k ≡ 10
    → first_line xs ≡ Some (k + 1)
line_at [] k within other lf = absurd (omega arith)
line_at (x ∷ xs) zero within other lf = cond-true (eqb x 10) (Some 1) (option_map (λ n. n + 1) (first_line xs)) (eq-eqb x 10 lf)
line_at (x ∷ xs) (suc k) within other lf =
    let n : k + 1 + 1 ≡ suc k + 1 = omega arith in
    cond-false (eqb x 10) (Some 1) (option_map (λ n. n + 1) (first_line xs)) (ne_eqb x 10 (λ e. other 0 (omega arith) e))
    ∙ ap (option_map (λ n. n + 1)) (line_at xs k (omega arith) (λ j below e. other (suc j) (omega arith) e) lf) ∙ ap Some n

-- what a search for LF answers
pub line_found : (xs : List ℕ) (r : Option ℕ) → IsFirstByte (is_byte 10) xs r → option_map (λ k. k + 1) r ≡ first_line xs
line_found xs None none = sym (no_line xs (λ k within e. none k (omega arith) within (eq-eqb _ 10 e)))
line_found xs (Some k) some =
    let first = some.0 in
    sym (line_at xs k first.high (λ j below e. first.before j (omega arith) below (eq-eqb _ 10 e)) (eqb-true _ 10 some.1))

pub record IsFirst (xs : List ℕ) (n : ℕ) : Type 0 where
  pub some : 0 < n
  pub within : n ≤ length xs
  pub stays : (ys : List ℕ) → first_line (xs ++ ys) ≡ Some n

pub first_line_is_first : (xs : List ℕ) (n : ℕ) → first_line xs ≡ Some n → IsFirst xs n
first_line_is_first [] n h = cc
first_line_is_first (x ∷ xs) n h =
    let r = at (eqb x 10) (λ k g. first_line_is_first xs k g) h in
    record { some = r.0; within = r.1; stays = r.2 }
  where
    later : (m : Option ℕ) → first_line xs ≡ m → option_map (λ n. n + 1) m ≡ Some n → (k : ℕ) × (first_line xs ≡ Some k) × (k + 1 ≡ n)
    later None e h = cc
    later (Some k) e h = (k, e, cc)

    at : (t : Bool) → ((k : ℕ) → first_line xs ≡ Some k → IsFirst xs k) → cond t (Some 1) (option_map (λ n. n + 1) (first_line xs)) ≡ Some n
        → (0 < n) × (n ≤ suc (length xs)) × ((ys : List ℕ) → cond t (Some 1) (option_map (λ n. n + 1) (first_line (xs ++ ys))) ≡ Some n)
    at true again h =
        let one : 1 ≡ n = cc in
        (omega arith, omega arith, λ ys. h)
    at false again h =
        let k = later (first_line xs) refl h in
        let rest = again k.0 k.1 in
        let w = rest.within in
        let e = k.2 in
        (omega arith, omega arith, λ ys. ap (option_map (λ n. n + 1)) (rest.stays ys) ∙ ap Some k.2)

-- ---- windows

-- a window of more bytes begins with the window of fewer
pub window_more : (n : ℕ) (xs ys : List ℕ) → (zs : List ℕ) × (take n (xs ++ ys) ≡ take n xs ++ zs)
window_more zero xs ys = ([], refl)
window_more (suc n) [] ys = (take (suc n) ys, refl)
window_more (suc n) (x ∷ xs) ys = let r = window_more n xs ys in (r.0, ap (λ zs. x ∷ zs) r.1)

pub length-window : (n : ℕ) (xs : List ℕ) → length (take n xs) ≤ length xs
length-window n xs = omega (arith, length-take n xs)
