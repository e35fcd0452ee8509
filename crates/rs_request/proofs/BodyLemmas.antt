-- Facts on the parts of a body.
use Rattle.std.proofs.Common.{◌≡◌, ℕ, zero, suc, ◌+◌, ◌-◌, ◌<◌, ◌≤◌, Bool, true, false, cond, List, [], ◌∷◌, ◌++◌, length, take, drop, Option, Some, None, Result, Ok, Err, refl, sym, ap, ◌∙◌, subst, arith, inl, inr, ◌⊎◌}
use Rattle.std.specs.Prelude.{nat_lt, bytes_eq}
use Rattle.std.proofs.lemmas.List.{append_assoc, length-append, length-drop, take-append-le, drop-append-le, take-append-drop, drop-drop, drop-take, take-take}
use Rattle.std.proofs.lemmas.Bool.{cond-true, cond-false, lt-ltb, le-ltb, ltb-false, cases_lt}
use Rattle.rs_request.specs.declared.fault.WireFault.{WireFault}
use Rattle.rs_request.specs.declared.fault.WireWhy.{WireWhy}
use Rattle.rs_request.specs.declared.fault.WireWhy.TheVariants.{BadChunk}
use Rattle.rs_request.specs.declared.body.Part.{Part}
use Rattle.rs_request.specs.declared.body.Part.TheVariants.{Length, Line, Data, Trailer}
use Rattle.rs_request.specs.declared.search.Spot.TheVariants.{Fresh}
use Rattle.rs_request.specs.Limits.{max_chunk_line, max_trailer}
use Rattle.rs_request.specs.Lines.{first_line, first_empty_line}
use Rattle.rs_request.specs.ChunkTexts.{size_of}
use Rattle.rs_request.specs.Bodies.{unended, ended, spoiled, Turn, waits, goes, ends, fails, fault_at, next_part, size_turn, line_turn, trailer_turn, has_line_end, turn, after_turn, parts, body_from}
use Rattle.rs_request.proofs.LinesLemmas.{empty_line_is_found, first_line_is_first, window_more, length-window}

-- how many bytes a turn takes: some of those there are where another comes, and no more than there are
abbrev pub IsCount : List ℕ → Turn → Type 0
IsCount rest waits = Unit {0}
IsCount rest (goes part body n) = (0 < n) × (n ≤ length rest)
IsCount rest (ends body n) = n ≤ length rest
IsCount rest (fails fault) = Unit {0}

-- a turn that doesn't wait stays whatever follows
abbrev pub IsSettled : (Turn → Type 0) → Turn → Type 0
IsSettled same waits = Unit {0}
IsSettled same (goes part body n) = same (goes part body n)
IsSettled same (ends body n) = same (ends body n)
IsSettled same (fails fault) = same (fails fault)

if_waits : (rest : List ℕ) (n : ℕ) (t : Turn) (b : Bool) → nat_lt (length rest) n ≡ b → (n ≤ length rest → IsCount rest t) → IsCount rest (cond b waits t)
if_waits rest n t true e count = tt
if_waits rest n t false e count = count (ltb-false _ _ e)

size_count : (body : List ℕ) (at n : ℕ) (rest : List ℕ) (r : Result Part WireWhy) → 0 < n → n ≤ length rest → IsCount rest (size_turn body at n r)
size_count body at n rest (Ok part) some within = (some, within)
size_count body at n rest (Err why) some within = tt

either_count : (rest : List ℕ) (s t : Turn) (b : Bool) → IsCount rest s → IsCount rest t → IsCount rest (cond b s t)
either_count rest s t true one other = one
either_count rest s t false one other = other

pub turn_count : (part : Part) (body : List ℕ) (at : ℕ) (rest : List ℕ) → IsCount rest (turn part body at rest)
turn_count (Length n) body at rest = if_waits rest n (ends (body ++ take n rest) n) (nat_lt (length rest) n) refl (λ within. within)
turn_count (Line sought) body at rest = by_line (first_line (take max_chunk_line rest)) refl
  where
    by_line : (o : Option ℕ) → first_line (take max_chunk_line rest) ≡ o → IsCount rest (line_turn body at rest o)
    by_line None e = either_count rest waits (fails (fault_at BadChunk at)) (nat_lt (length rest) max_chunk_line) tt tt
    by_line (Some n) e =
        let first = first_line_is_first (take max_chunk_line rest) n e in
        let w = first.within in
        size_count body at n rest (next_part (length body) (size_of (take n rest))) first.some (omega (arith, length-window max_chunk_line rest))
turn_count (Data n) body at rest =
    if_waits rest (n + 2) _ (nat_lt (length rest) (n + 2)) refl (λ within.
    either_count rest (goes (Line 0) (body ++ take n rest) (n + 2)) (fails (fault_at BadChunk (at + n))) (has_line_end (drop n rest)) (omega arith, within) tt)
turn_count (Trailer search) body at rest = by_line (first_empty_line Fresh (take max_trailer rest)) refl
  where
    by_line : (o : Option ℕ) → first_empty_line Fresh (take max_trailer rest) ≡ o → IsCount rest (trailer_turn body at rest o)
    by_line None e = either_count rest waits (fails (fault_at BadChunk at)) (nat_lt (length rest) max_trailer) tt tt
    by_line (Some n) e =
        let found = empty_line_is_found Fresh (take max_trailer rest) n e in
        let w = found.within in
        omega (arith, length-window max_trailer rest)

-- a turn that isn't the same with more bytes waits
abbrev stays : List ℕ → Turn → Turn → Type 0
stays rest s t = IsSettled (λ u. s ≡ u) t

settled : (s t : Turn) → s ≡ t → IsSettled (λ u. s ≡ u) t
settled s waits e = tt
settled s (goes part body n) e = e
settled s (ends body n) e = e
settled s (fails fault) e = e

-- more bytes than a part needs are no fewer
if_settled : (rest more : List ℕ) (n : ℕ) (s t : Turn) (b : Bool) → nat_lt (length rest) n ≡ b → (n ≤ length rest → s ≡ t)
    → IsSettled (λ u. cond (nat_lt (length (rest ++ more)) n) waits s ≡ u) (cond b waits t)
if_settled rest more n s t true e same = tt
if_settled rest more n s t false e same =
    let within : n ≤ length rest = ltb-false _ _ e in
    settled _ t (cond-false _ waits s (le-ltb (length (rest ++ more)) n (omega (arith, length-append rest more))) ∙ same within)

-- a window that is full stays
full_window : (n : ℕ) (rest more : List ℕ) → n ≤ length rest → take n (rest ++ more) ≡ take n rest
full_window n rest more within = take-append-le n rest more within

pub turn_settled : (part : Part) (body : List ℕ) (at : ℕ) (rest more : List ℕ)
    → IsSettled (λ t. turn part body at (rest ++ more) ≡ t) (turn part body at rest)
turn_settled (Length n) body at rest more =
    if_settled rest more n (ends (body ++ take n (rest ++ more)) n) (ends (body ++ take n rest) n) (nat_lt (length rest) n) refl (λ within.
    ap (λ xs. ends (body ++ xs) n) (take-append-le n rest more within))
turn_settled (Line sought) body at rest more = by_line (first_line (take max_chunk_line rest)) refl
  where
    by_line : (o : Option ℕ) → first_line (take max_chunk_line rest) ≡ o
        → IsSettled (λ t. line_turn body at (rest ++ more) (first_line (take max_chunk_line (rest ++ more))) ≡ t) (line_turn body at rest o)
    by_line None e = by_test (nat_lt (length rest) max_chunk_line) refl
      where
        by_test : (b : Bool) → nat_lt (length rest) max_chunk_line ≡ b
            → IsSettled (λ t. line_turn body at (rest ++ more) (first_line (take max_chunk_line (rest ++ more))) ≡ t) (cond b waits (fails (fault_at BadChunk at)))
        by_test true f = tt
        by_test false f =
            let within : max_chunk_line ≤ length rest = ltb-false _ _ f in
            ap (line_turn body at (rest ++ more)) (ap first_line (full_window max_chunk_line rest more within) ∙ e)
            ∙ cond-false _ waits (fails (fault_at BadChunk at)) (le-ltb (length (rest ++ more)) max_chunk_line (omega (arith, length-append rest more)))
    by_line (Some n) e =
        let first = first_line_is_first (take max_chunk_line rest) n e in
        let w = first.within in
        let larger = window_more max_chunk_line rest more in
        settled _ _ (ap (line_turn body at (rest ++ more)) (ap first_line larger.1 ∙ first.stays larger.0)
        ∙ ap (λ xs. size_turn body at n (next_part (length body) (size_of xs))) (take-append-le n rest more (omega (arith, length-window max_chunk_line rest))))
turn_settled (Data n) body at rest more =
    if_settled rest more (n + 2) _ _ (nat_lt (length rest) (n + 2)) refl (λ within.
    let two : take 2 (drop n (rest ++ more)) ≡ take 2 (drop n rest) =
    ap (take 2) (drop-append-le n rest more (omega arith)) ∙ take-append-le 2 (drop n rest) more (omega (arith, length-drop n rest)) in
    let taken = take-append-le n rest more (omega arith) in
    (λ i. cond (bytes_eq (two i) (13 ∷ 10 ∷ [])) (goes (Line 0) (body ++ taken i) (n + 2)) (fails (fault_at BadChunk (at + n)))))
turn_settled (Trailer search) body at rest more = by_line (first_empty_line Fresh (take max_trailer rest)) refl
  where
    by_line : (o : Option ℕ) → first_empty_line Fresh (take max_trailer rest) ≡ o
        → IsSettled (λ t. trailer_turn body at (rest ++ more) (first_empty_line Fresh (take max_trailer (rest ++ more))) ≡ t) (trailer_turn body at rest o)
    by_line None e = by_test (nat_lt (length rest) max_trailer) refl
      where
        by_test : (b : Bool) → nat_lt (length rest) max_trailer ≡ b
            → IsSettled (λ t. trailer_turn body at (rest ++ more) (first_empty_line Fresh (take max_trailer (rest ++ more))) ≡ t) (cond b waits (fails (fault_at BadChunk at)))
        by_test true f = tt
        by_test false f =
            let within : max_trailer ≤ length rest = ltb-false _ _ f in
            ap (trailer_turn body at (rest ++ more)) (ap (first_empty_line Fresh) (full_window max_trailer rest more within) ∙ e)
            ∙ cond-false _ waits (fails (fault_at BadChunk at)) (le-ltb (length (rest ++ more)) max_trailer (omega (arith, length-append rest more)))
    by_line (Some n) e =
        let found = empty_line_is_found Fresh (take max_trailer rest) n e in
        let larger = window_more max_trailer rest more in
        ap (trailer_turn body at (rest ++ more)) (ap (first_empty_line Fresh) larger.1 ∙ found.stays larger.0)

-- fuel past the bytes changes nothing
pub parts_fuel : (f g : ℕ) (part : Part) (body : List ℕ) (at : ℕ) (rest : List ℕ) → length rest < f → length rest < g
    → parts f part body at rest ≡ parts g part body at rest
parts_fuel zero g part body at rest low high = absurd (omega arith)
parts_fuel (suc f) zero part body at rest low high = absurd (omega arith)
parts_fuel (suc f) (suc g) part body at rest low high =
    step (turn part body at rest) (turn_count part body at rest) (λ next so_far n some within.
    parts_fuel f g next so_far (at + n) (drop n rest) (omega (arith, length-drop n rest)) (omega (arith, length-drop n rest)))
  where
    step : (t : Turn) → IsCount rest t
        → ((next : Part) (so_far : List ℕ) (n : ℕ) → 0 < n → n ≤ length rest → parts f next so_far (at + n) (drop n rest) ≡ parts g next so_far (at + n) (drop n rest))
        → after_turn (λ next so_far n. parts f next so_far (at + n) (drop n rest)) at t ≡ after_turn (λ next so_far n. parts g next so_far (at + n) (drop n rest)) at t
    step waits count again = refl
    step (goes next so_far n) count again = again next so_far n count.0 count.1
    step (ends so_far n) count again = refl
    step (fails fault) count again = refl

-- one turn of a body
pub body_step : (part : Part) (body : List ℕ) (at : ℕ) (rest : List ℕ) (t : Turn) → turn part body at rest ≡ t
    → body_from part body at rest ≡ after_turn (λ next so_far n. body_from next so_far (at + n) (drop n rest)) at t
unfolding body_from
body_step part body at rest t e =
    ap (after_turn (λ next so_far n. parts (length rest) next so_far (at + n) (drop n rest)) at) e
    ∙ step t (count t e) (λ next so_far n some within.
    parts_fuel (length rest) (suc (length (drop n rest))) next so_far (at + n) (drop n rest) (omega (arith, length-drop n rest)) (omega arith))
  where
    count : (t : Turn) → turn part body at rest ≡ t → IsCount rest t
    count t e = subst (IsCount rest) e (turn_count part body at rest)

    step : (t : Turn) → IsCount rest t
        → ((next : Part) (so_far : List ℕ) (n : ℕ) → 0 < n → n ≤ length rest → parts (length rest) next so_far (at + n) (drop n rest) ≡ body_from next so_far (at + n) (drop n rest))
        → after_turn (λ next so_far n. parts (length rest) next so_far (at + n) (drop n rest)) at t ≡ after_turn (λ next so_far n. body_from next so_far (at + n) (drop n rest)) at t
    step waits count again = refl
    step (goes next so_far n) count again = again next so_far n count.0 count.1
    step (ends so_far n) count again = refl
    step (fails fault) count again = refl

-- a part that ended leads on, whatever follows
pub body_goes : (part next : Part) (body so_far : List ℕ) (at n : ℕ) (rest : List ℕ) → turn part body at rest ≡ goes next so_far n
    → (0 < n) × (n ≤ length rest) × ((more : List ℕ) → body_from part body at (rest ++ more) ≡ body_from next so_far (at + n) (drop n rest ++ more))
body_goes part next body so_far at n rest e =
    let count = subst (IsCount rest) e (turn_count part body at rest) in (
      count.0,
      count.1,
      λ more.
          let settled = subst (IsSettled (λ t. turn part body at (rest ++ more) ≡ t)) e (turn_settled part body at rest more) in
          body_step part body at (rest ++ more) (goes next so_far n) settled
          ∙ ap (body_from next so_far (at + n)) (drop-append-le n rest more count.1),
    )

pub body_ends : (part : Part) (body so_far : List ℕ) (at n : ℕ) (rest : List ℕ) → turn part body at rest ≡ ends so_far n
    → (n ≤ length rest) × (body_from part body at rest ≡ ended so_far (at + n))
body_ends part body so_far at n rest e =
    (subst (IsCount rest) e (turn_count part body at rest), body_step part body at rest (ends so_far n) e)

pub body_fails : (part : Part) (body : List ℕ) (at : ℕ) (rest : List ℕ) (fault : WireFault) → turn part body at rest ≡ fails fault
    → body_from part body at rest ≡ spoiled fault
body_fails part body at rest fault e = body_step part body at rest (fails fault) e

pub body_waits : (part : Part) (body : List ℕ) (at : ℕ) (rest : List ℕ) → turn part body at rest ≡ waits
    → body_from part body at rest ≡ unended
body_waits part body at rest e = body_step part body at rest waits e

-- bytes of a part that were taken before its end
fewer : (n k : ℕ) (xs : List ℕ) → k ≤ n → k ≤ length xs → nat_lt (length xs) n ≡ nat_lt (length (drop k xs)) (n - k)
fewer n k xs low within = by_order (cases_lt (length xs) n)
  where
    by_order : (length xs < n) ⊎ (n ≤ length xs) → nat_lt (length xs) n ≡ nat_lt (length (drop k xs)) (n - k)
    by_order (inl less) = lt-ltb _ _ less ∙ sym (lt-ltb _ _ (omega (arith, length-drop k xs)))
    by_order (inr more) = le-ltb _ _ more ∙ sym (le-ltb _ _ (omega (arith, length-drop k xs)))

joined : (n k : ℕ) (body xs : List ℕ) → k ≤ n → body ++ take n xs ≡ (body ++ take k xs) ++ take (n - k) (drop k xs)
joined n k body xs low =
    let sum : n ≡ k + (n - k) = omega arith in
    let parts = sym (take-append-drop k (take n xs)) in
    let first = ap (λ ys. ys ++ drop k (take n xs)) (take-take k n xs low) in
    let second = ap (λ m. take k xs ++ drop k (take m xs)) sum ∙ ap (λ ys. take k xs ++ ys) (drop-take k (n - k) xs) in
    ap (λ ys. body ++ ys) (parts ∙ first ∙ second) ∙ sym (append_assoc body (take k xs) _)

pub length_taken : (n k : ℕ) (body : List ℕ) (at : ℕ) (xs : List ℕ) → k ≤ n → k ≤ length xs
    → body_from (Length n) body at xs ≡ body_from (Length (n - k)) (body ++ take k xs) (at + k) (drop k xs)
length_taken n k body at xs low within = by_order (cases_lt (length xs) n)
  where
    by_order : (length xs < n) ⊎ (n ≤ length xs) → body_from (Length n) body at xs ≡ body_from (Length (n - k)) (body ++ take k xs) (at + k) (drop k xs)
    by_order (inl less) =
        body_waits (Length n) body at xs (cond-true _ waits (ends (body ++ take n xs) n) (lt-ltb _ _ less))
        ∙ sym (body_waits (Length (n - k)) (body ++ take k xs) (at + k) (drop k xs)
        (cond-true _ waits (ends ((body ++ take k xs) ++ take (n - k) (drop k xs)) (n - k)) (sym (fewer n k xs low within) ∙ lt-ltb _ _ less)))
    by_order (inr enough) =
        let place : at + n ≡ at + k + (n - k) = omega arith in
        (body_ends (Length n) body (body ++ take n xs) at n xs (cond-false _ waits (ends (body ++ take n xs) n) (le-ltb _ _ enough))).1
        ∙ (λ i. ended (joined n k body xs low i) (place i))
        ∙ sym (body_ends (Length (n - k)) (body ++ take k xs) ((body ++ take k xs) ++ take (n - k) (drop k xs)) (at + k) (n - k) (drop k xs)
        (cond-false _ waits (ends ((body ++ take k xs) ++ take (n - k) (drop k xs)) (n - k)) (sym (fewer n k xs low within) ∙ le-ltb _ _ enough))).1

pub data_taken : (n k : ℕ) (body : List ℕ) (at : ℕ) (xs : List ℕ) → k ≤ n → k ≤ length xs
    → body_from (Data n) body at xs ≡ body_from (Data (n - k)) (body ++ take k xs) (at + k) (drop k xs)
data_taken n k body at xs low within = by_order (cases_lt (length xs) (n + 2))
  where
    sum : n - k + 2 ≡ n + 2 - k
    sum = omega arith

    test : nat_lt (length xs) (n + 2) ≡ nat_lt (length (drop k xs)) (n - k + 2)
    test = fewer (n + 2) k xs (omega arith) within ∙ ap (nat_lt (length (drop k xs))) (sym sum)

    far : drop n xs ≡ drop (n - k) (drop k xs)
    far = let e : n ≡ k + (n - k) = omega arith in ap (λ m. drop m xs) e ∙ sym (drop-drop (n - k) k xs)

    farther : drop (n + 2) xs ≡ drop (n - k + 2) (drop k xs)
    farther = let e : n + 2 ≡ k + (n - k + 2) = omega arith in ap (λ m. drop m xs) e ∙ sym (drop-drop (n - k + 2) k xs)

    by_end : (t : Bool) → has_line_end (drop n xs) ≡ t → n + 2 ≤ length xs
        → body_from (Data n) body at xs ≡ body_from (Data (n - k)) (body ++ take k xs) (at + k) (drop k xs)
    by_end true e enough =
        let place : at + (n + 2) ≡ at + k + (n - k + 2) = omega arith in
        body_step (Data n) body at xs (goes (Line 0) (body ++ take n xs) (n + 2))
        (cond-false _ waits _ (le-ltb _ _ enough) ∙ cond-true _ (goes (Line 0) (body ++ take n xs) (n + 2)) (fails (fault_at BadChunk (at + n))) e)
        ∙ (λ i. body_from (Line 0) (joined n k body xs low i) (place i) (farther i))
        ∙ sym (body_step (Data (n - k)) (body ++ take k xs) (at + k) (drop k xs) (goes (Line 0) ((body ++ take k xs) ++ take (n - k) (drop k xs)) (n - k + 2))
        (cond-false _ waits _ (sym test ∙ le-ltb _ _ enough)
        ∙ cond-true _ (goes (Line 0) ((body ++ take k xs) ++ take (n - k) (drop k xs)) (n - k + 2)) (fails (fault_at BadChunk (at + k + (n - k)))) (sym (ap has_line_end far) ∙ e)))
    by_end false e enough =
        let place : at + n ≡ at + k + (n - k) = omega arith in
        body_fails (Data n) body at xs (fault_at BadChunk (at + n))
        (cond-false _ waits _ (le-ltb _ _ enough) ∙ cond-false _ (goes (Line 0) (body ++ take n xs) (n + 2)) (fails (fault_at BadChunk (at + n))) e)
        ∙ ap (λ m. spoiled (fault_at BadChunk m)) place
        ∙ sym (body_fails (Data (n - k)) (body ++ take k xs) (at + k) (drop k xs) (fault_at BadChunk (at + k + (n - k)))
        (cond-false _ waits _ (sym test ∙ le-ltb _ _ enough)
        ∙ cond-false _ (goes (Line 0) ((body ++ take k xs) ++ take (n - k) (drop k xs)) (n - k + 2)) (fails (fault_at BadChunk (at + k + (n - k)))) (sym (ap has_line_end far) ∙ e)))

    by_order : (length xs < n + 2) ⊎ (n + 2 ≤ length xs) → body_from (Data n) body at xs ≡ body_from (Data (n - k)) (body ++ take k xs) (at + k) (drop k xs)
    by_order (inl less) =
        body_waits (Data n) body at xs (cond-true _ waits _ (lt-ltb _ _ less))
        ∙ sym (body_waits (Data (n - k)) (body ++ take k xs) (at + k) (drop k xs) (cond-true _ waits _ (sym test ∙ lt-ltb _ _ less)))
    by_order (inr enough) = by_end (has_line_end (drop n xs)) refl enough
