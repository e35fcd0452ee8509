-- The bytes that were read as a body spell it.
use Rattle.std.proofs.Common.{◌≡◌, ℕ, zero, suc, ◌+◌, ◌<◌, ◌≤◌, Bool, true, false, cond, eqb, List, [], ◌∷◌, ◌++◌, length, take, drop, Option, Some, None, refl, sym, ap, ◌∙◌, subst, arith}
use Rattle.std.specs.Prelude.{nat_lt, option_map, Ok, Err}
use Rattle.std.specs.Option.{option_map_or}
use Rattle.std.proofs.lemmas.List.{append-nil, append_assoc, length-append, length-take, length-drop, take-append-drop, take-take, drop-drop, nil_from_length}
use Rattle.std.proofs.lemmas.Bool.{cond-true, cond-false, ltb-false, eqb-true}
use Rattle.std.proofs.lemmas.Slice.Eq.{bytes_eq-Decides}
use Rattle.rs_request.specs.declared.fault.WireFault.{WireFault}
use Rattle.rs_request.specs.declared.fault.WireWhy.TheVariants.{BadChunk, BodyLong}
use Rattle.rs_request.specs.declared.framing.Framing.{Framing}
use Rattle.rs_request.specs.declared.framing.Framing.TheVariants as framed
use Rattle.rs_request.specs.declared.body.Part.{Part}
use Rattle.rs_request.specs.declared.body.Part.TheVariants.{Length, Line, Data, Trailer}
use Rattle.rs_request.specs.declared.search.Spot.{Spot}
use Rattle.rs_request.specs.declared.search.Search.{Search}
use Rattle.rs_request.specs.declared.search.Spot.TheVariants.{Fresh}
use Rattle.rs_path.specs.Limits.{max_body}
use Rattle.rs_request.specs.Limits.{max_chunk_line, max_trailer}
use Rattle.rs_request.specs.Lines.{next_spot, first_line, first_empty_line}
use Rattle.rs_request.specs.ChunkTexts.{size_of}
use Rattle.rs_request.specs.Bodies.{ended, Turn, waits, goes, ends, fails, fault_at, part_after, next_part, size_turn, line_turn, trailer_turn, has_line_end, turn, first_part, body_from}
use Rattle.rs_request.specs.Spelling.{IsLine, Chunks, chunk, last, SpellsBody}
use Rattle.rs_request.proofs.LinesLemmas.{empty_line_is_found, first_line_is_first}
use Rattle.rs_request.proofs.BodyLemmas.{IsCount, turn_count, body_step, body_waits, body_fails}

-- ---- lines, alone

-- the first line alone
pub first_line_alone : (xs : List ℕ) (n : ℕ) → first_line xs ≡ Some n → first_line (take n xs) ≡ Some n
first_line_alone [] n e = cc
first_line_alone (x ∷ xs) n e =
    let r = at (eqb x 10) (λ k f. first_line_alone xs k f) e in
    subst (λ (j : ℕ). first_line (take j (x ∷ xs)) ≡ Some j) r.1 r.2
  where
    by_rest : ((k : ℕ) → first_line xs ≡ Some k → first_line (take k xs) ≡ Some k) → (o : Option ℕ) → first_line xs ≡ o
        → option_map (λ n. n + 1) o ≡ Some n → (k : ℕ) × (suc k ≡ n) × (option_map (λ n. n + 1) (first_line (take k xs)) ≡ Some (suc k))
    by_rest again None f e = cc
    by_rest again (Some k) f e =
        let one : k + 1 ≡ n = cc in
        let same : k + 1 ≡ suc k = omega arith in
        (k, omega arith, ap (option_map (λ n. n + 1)) (again k f) ∙ ap Some same)

    at : (t : Bool) → ((k : ℕ) → first_line xs ≡ Some k → first_line (take k xs) ≡ Some k)
        → cond t (Some 1) (option_map (λ n. n + 1) (first_line xs)) ≡ Some n
        → (k : ℕ) × (suc k ≡ n) × (cond t (Some 1) (option_map (λ n. n + 1) (first_line (take k xs))) ≡ Some (suc k))
    at true again e = let one : 1 ≡ n = cc in (0, omega arith, refl)
    at false again e = by_rest again (first_line xs) refl e

abbrev finds : List ℕ → Option Spot → Option ℕ
finds xs o = option_map_or (λ next. option_map (λ n. n + 1) (first_empty_line next xs)) o (Some 1)

-- the text up to the first empty line alone
pub empty_line_alone : (s : Spot) (xs : List ℕ) (n : ℕ) → first_empty_line s xs ≡ Some n → first_empty_line s (take n xs) ≡ Some n
empty_line_alone s [] n e = cc
empty_line_alone s (x ∷ xs) n e =
    let r = at (next_spot s x) (λ u k f. empty_line_alone u xs k f) e in
    subst (λ (j : ℕ). first_empty_line s (take j (x ∷ xs)) ≡ Some j) r.1 r.2
  where
    by_rest : (u : Spot) → ((k : ℕ) → first_empty_line u xs ≡ Some k → first_empty_line u (take k xs) ≡ Some k) → (o : Option ℕ) → first_empty_line u xs ≡ o
        → option_map (λ n. n + 1) o ≡ Some n → (k : ℕ) × (suc k ≡ n) × (option_map (λ n. n + 1) (first_empty_line u (take k xs)) ≡ Some (suc k))
    by_rest u again None f e = cc
    by_rest u again (Some k) f e =
        let one : k + 1 ≡ n = cc in
        let same : k + 1 ≡ suc k = omega arith in
        (k, omega arith, ap (option_map (λ n. n + 1)) (again k f) ∙ ap Some same)

    at : (o : Option Spot) → ((u : Spot) (k : ℕ) → first_empty_line u xs ≡ Some k → first_empty_line u (take k xs) ≡ Some k) → finds xs o ≡ Some n
        → (k : ℕ) × (suc k ≡ n) × (finds (take k xs) o ≡ Some (suc k))
    at None again e = let one : 1 ≡ n = cc in (0, omega arith, refl)
    at (Some u) again e = by_rest u (again u) (first_empty_line u xs) refl e

-- a text that was found in a window
pub record IsCutAt (limit n : ℕ) (bytes : List ℕ) : Type 0 where
  pub low : n ≤ limit
  pub within : n ≤ length bytes
  pub count : length (take n bytes) ≡ n

cut_at_window : (limit n : ℕ) (bytes : List ℕ) → n ≤ length (take limit bytes) → IsCutAt limit n bytes
cut_at_window limit n bytes within =
    let taken = length-take limit bytes in
    record { low = omega (arith, taken, within); within = omega (arith, taken, within); count = omega (arith, taken, within, length-take n bytes) }

pub line_of_window : (limit n : ℕ) (bytes : List ℕ) → first_line (take limit bytes) ≡ Some n → IsCutAt limit n bytes × IsLine (take n bytes)
line_of_window limit n bytes e =
    let cut = cut_at_window limit n bytes (first_line_is_first (take limit bytes) n e).within in
    let same = take-take n limit bytes cut.low in
    let size = sym cut.count in
    (cut, ap first_line (sym same) ∙ first_line_alone (take limit bytes) n e ∙ ap Some size)

pub end_of_window : (s : Spot) (limit n : ℕ) (bytes : List ℕ) → first_empty_line s (take limit bytes) ≡ Some n
    → IsCutAt limit n bytes × (first_empty_line s (take n bytes) ≡ Some (length (take n bytes)))
end_of_window s limit n bytes e =
    let cut = cut_at_window limit n bytes (empty_line_is_found s (take limit bytes) n e).within in
    let same = take-take n limit bytes cut.low in
    let size = sym cut.count in
    (cut, ap (first_empty_line s) (sym same) ∙ empty_line_alone s (take limit bytes) n e ∙ ap Some size)

-- ---- what a turn says of a body that was read

module _ (part : Part) (b : List ℕ) (at : ℕ) (bytes body : List ℕ) (end : ℕ) (e : body_from part b at bytes ≡ ended body end) where
  no_wait : turn part b at bytes ≡ waits → ⊥
  no_wait t = let none = sym (body_waits part b at bytes t) ∙ e in cc

  no_fault : (f : WireFault) → turn part b at bytes ≡ fails f → ⊥
  no_fault f t = let none = sym (body_fails part b at bytes f t) ∙ e in cc

  leads : (next : Part) (later : List ℕ) (k : ℕ) → turn part b at bytes ≡ goes next later k
      → (0 < k) × (k ≤ length bytes) × (body_from next later (at + k) (drop k bytes) ≡ ended body end)
  leads next later k t =
      let count = subst (IsCount bytes) t (turn_count part b at bytes) in
      (count.0, count.1, sym (body_step part b at bytes (goes next later k) t) ∙ e)

  closes : (later : List ℕ) (k : ℕ) → turn part b at bytes ≡ ends later k → (k ≤ length bytes) × (later ≡ body) × (at + k ≡ end)
  closes later k t =
      let whole = sym (body_step part b at bytes (ends later k) t) ∙ e in
      (subst (IsCount bytes) t (turn_count part b at bytes), cc, cc)

-- ---- the rest of a body

-- the text is what a body, of which this was read, still needs from this part on
abbrev IsRest : Part → List ℕ → List ℕ → List ℕ → Type 0
IsRest (Length n) b body text = (length text ≡ n) × (body ≡ b ++ text)
IsRest (Line sought) b body text = (later : List ℕ) × (body ≡ b ++ later) × Chunks (length b) later text
IsRest (Data n) b body text =
    (content : List ℕ) × (later : List ℕ) × (rest : List ℕ) × (text ≡ content ++ (13 ∷ 10 ∷ rest)) × (length content ≡ n)
    × (body ≡ b ++ (content ++ later)) × Chunks (length b + n) later rest
IsRest (Trailer search) b body text = (body ≡ b) × (first_empty_line Fresh text ≡ Some (length text)) × (length text ≤ max_trailer)

-- the bytes begin with such a text
pub record IsRestRead (part : Part) (b : List ℕ) (at : ℕ) (bytes body : List ℕ) (end : ℕ) : Type 0 where
  pub text : List ℕ
  pub rest : List ℕ
  pub whole : bytes ≡ text ++ rest
  pub place : end ≡ at + length text
  pub is : IsRest part b body text

-- what is known of the parts after one
abbrev IsKnown : ℕ → List ℕ → List ℕ → ℕ → Type 0
IsKnown at bytes body end =
    (next : Part) (later : List ℕ) (k : ℕ) → 0 < k → k ≤ length bytes → body_from next later (at + k) (drop k bytes) ≡ ended body end
    → IsRestRead next later (at + k) (drop k bytes) body end

length_rest : (n : ℕ) (b : List ℕ) (at : ℕ) (bytes body : List ℕ) (end : ℕ) → body_from (Length n) b at bytes ≡ ended body end
    → IsRestRead (Length n) b at bytes body end
length_rest n b at bytes body end e = by_test (nat_lt (length bytes) n) refl
  where
    by_test : (t : Bool) → nat_lt (length bytes) n ≡ t → IsRestRead (Length n) b at bytes body end
    by_test true t = absurd (no_wait (Length n) b at bytes body end e (cond-true _ waits (ends (b ++ take n bytes) n) t))
    by_test false t =
        let close = closes (Length n) b at bytes body end e (b ++ take n bytes) n (cond-false _ waits (ends (b ++ take n bytes) n) t) in
        let within = close.0 in
        let place = close.2 in
        let count : length (take n bytes) ≡ n = omega (arith, within, length-take n bytes) in record {
          text = take n bytes;
          rest = drop n bytes;
          whole = sym (take-append-drop n bytes);
          place = omega (arith, place, count);
          is = (count, sym close.1);
        }

-- a line, and a text after it
joined : (n : ℕ) (bytes text rest : List ℕ) → drop n bytes ≡ text ++ rest → bytes ≡ (take n bytes ++ text) ++ rest
joined n bytes text rest e = sym (take-append-drop n bytes) ∙ ap (λ xs. take n bytes ++ xs) e ∙ sym (append_assoc (take n bytes) text rest)

positive : (n : ℕ) → eqb n 0 ≡ false → 0 < n
positive zero none = cc
positive (suc n) none = omega arith

-- a chunk's line, and what comes after it
module _ (sought : ℕ) (b : List ℕ) (at : ℕ) (bytes body : List ℕ) (end n size : ℕ) (found : first_line (take max_chunk_line bytes) ≡ Some n)
    (sized : size_of (take n bytes) ≡ Some size) (small : length b + size ≤ max_body) where
  last_chunk : eqb size 0 ≡ true → IsRestRead (Trailer (record { sought = 0; spot = Fresh })) b (at + n) (drop n bytes) body end
      → IsRestRead (Line sought) b at bytes body end
  last_chunk t r =
      let none = eqb-true size 0 t in
      let line = take n bytes in
      let window = line_of_window max_chunk_line n bytes found in
      let low = window.0.low in
      let count = window.0.count in
      let place = r.place in
      let text = r.text in
      let is = r.is in record {
        text = line ++ text;
        rest = r.rest;
        whole = joined n bytes text r.rest r.whole;
        place = omega (arith, place, count, length-append line text);
        is = (
          [],
          is.0 ∙ sym (append-nil b),
          last line text window.1 (omega (arith, count, low)) (sized ∙ ap Some none) (omega (arith, small)) is.1 is.2 refl,
        );
      }

  next_chunk : eqb size 0 ≡ false → IsRestRead (Data size) b (at + n) (drop n bytes) body end → IsRestRead (Line sought) b at bytes body end
  next_chunk t r =
      let some = positive size t in
      let line = take n bytes in
      let window = line_of_window max_chunk_line n bytes found in
      let low = window.0.low in
      let count = window.0.count in
      let place = r.place in
      let is = r.is in
      let size_is = is.4 in
      let chunks = subst (λ (k : ℕ). Chunks (length b + k) is.1 is.2) (sym size_is) is.6 in record {
        text = line ++ r.text;
        rest = r.rest;
        whole = joined n bytes r.text r.rest r.whole;
        place = omega (arith, place, count, length-append line r.text);
        is = (
          is.0 ++ is.1,
          is.5,
          chunk line is.0 is.1 is.2 window.1 (omega (arith, count, low)) (sized ∙ ap Some (sym size_is)) (omega (arith, size_is, some))
              (omega (arith, size_is, small)) chunks refl (ap (λ xs. line ++ xs) is.3),
        );
      }

line_rest : (sought : ℕ) (b : List ℕ) (at : ℕ) (bytes body : List ℕ) (end : ℕ) → IsKnown at bytes body end
    → body_from (Line sought) b at bytes ≡ ended body end → IsRestRead (Line sought) b at bytes body end
line_rest sought b at bytes body end known e = by_line (first_line (take max_chunk_line bytes)) refl
  where
    by_part : (n size : ℕ) → first_line (take max_chunk_line bytes) ≡ Some n → size_of (take n bytes) ≡ Some size → length b + size ≤ max_body
        → (t : Bool) → eqb size 0 ≡ t
        → IsRestRead (cond t (Trailer (record { sought = 0; spot = Fresh })) (Data size)) b (at + n) (drop n bytes) body end
        → IsRestRead (Line sought) b at bytes body end
    by_part n size found sized small true t r = last_chunk sought b at bytes body end n size found sized small t r
    by_part n size found sized small false t r = next_chunk sought b at bytes body end n size found sized small t r

    by_sum : (n size : ℕ) → first_line (take max_chunk_line bytes) ≡ Some n → size_of (take n bytes) ≡ Some size
        → (t : Bool) → nat_lt max_body (length b + size) ≡ t → IsRestRead (Line sought) b at bytes body end
    by_sum n size found sized true t =
        absurd (no_fault (Line sought) b at bytes body end e (fault_at BodyLong at)
        (ap (line_turn b at bytes) found
        ∙ ap (λ o. size_turn b at n (next_part (length b) o)) sized
        ∙ ap (size_turn b at n) (cond-true (nat_lt max_body (length b + size)) (Err BodyLong) (Ok (part_after size)) t)))
    by_sum n size found sized false t =
        let lead = leads (Line sought) b at bytes body end e (part_after size) b n
        (ap (line_turn b at bytes) found
        ∙ ap (λ o. size_turn b at n (next_part (length b) o)) sized
        ∙ ap (size_turn b at n) (cond-false (nat_lt max_body (length b + size)) (Err BodyLong) (Ok (part_after size)) t)) in
        by_part n size found sized (ltb-false _ _ t) (eqb size 0) refl (known (part_after size) b n lead.0 lead.1 lead.2)

    by_size : (n : ℕ) → first_line (take max_chunk_line bytes) ≡ Some n → (o : Option ℕ) → size_of (take n bytes) ≡ o
        → IsRestRead (Line sought) b at bytes body end
    by_size n found None sized =
        absurd (no_fault (Line sought) b at bytes body end e (fault_at BadChunk at)
        (ap (line_turn b at bytes) found ∙ ap (λ o. size_turn b at n (next_part (length b) o)) sized))
    by_size n found (Some size) sized = by_sum n size found sized (nat_lt max_body (length b + size)) refl

    by_window : (t : Bool) → nat_lt (length bytes) max_chunk_line ≡ t → first_line (take max_chunk_line bytes) ≡ None → ⊥
    by_window true t found =
        no_wait (Line sought) b at bytes body end e
        (ap (line_turn b at bytes) found ∙ cond-true (nat_lt (length bytes) max_chunk_line) waits (fails (fault_at BadChunk at)) t)
    by_window false t found =
        no_fault (Line sought) b at bytes body end e (fault_at BadChunk at)
        (ap (line_turn b at bytes) found ∙ cond-false (nat_lt (length bytes) max_chunk_line) waits (fails (fault_at BadChunk at)) t)

    by_line : (o : Option ℕ) → first_line (take max_chunk_line bytes) ≡ o → IsRestRead (Line sought) b at bytes body end
    by_line None found = absurd (by_window (nat_lt (length bytes) max_chunk_line) refl found)
    by_line (Some n) found = by_size n found (size_of (take n bytes)) refl

-- what comes of a chunk's data
abbrev data_turn : ℕ → List ℕ → ℕ → List ℕ → Turn
data_turn n b at bytes = cond (has_line_end (drop n bytes)) (goes (Line 0) (b ++ take n bytes) (n + 2)) (fails (fault_at BadChunk (at + n)))

data_rest : (n : ℕ) (b : List ℕ) (at : ℕ) (bytes body : List ℕ) (end : ℕ) → IsKnown at bytes body end
    → body_from (Data n) b at bytes ≡ ended body end → IsRestRead (Data n) b at bytes body end
data_rest n b at bytes body end known e = by_count (nat_lt (length bytes) (n + 2)) refl
  where
    by_end : n + 2 ≤ length bytes → turn (Data n) b at bytes ≡ data_turn n b at bytes → (t : Bool) → has_line_end (drop n bytes) ≡ t
        → IsRestRead (Data n) b at bytes body end
    by_end within turned false t =
        absurd (no_fault (Data n) b at bytes body end e (fault_at BadChunk (at + n))
        (turned ∙ cond-false (has_line_end (drop n bytes)) (goes (Line 0) (b ++ take n bytes) (n + 2)) (fails (fault_at BadChunk (at + n))) t))
    by_end within turned true t =
        let content = take n bytes in
        let lead = leads (Data n) b at bytes body end e (Line 0) (b ++ content) (n + 2)
        (turned ∙ cond-true (has_line_end (drop n bytes)) (goes (Line 0) (b ++ content) (n + 2)) (fails (fault_at BadChunk (at + n))) t) in
        let r = known (Line 0) (b ++ content) (n + 2) lead.0 lead.1 lead.2 in
        let is = r.is in
        let two : take 2 (drop n bytes) ≡ 13 ∷ 10 ∷ [] = (bytes_eq-Decides (take 2 (drop n bytes)) (13 ∷ 10 ∷ [])).0 t in
        let after : drop n bytes ≡ (13 ∷ 10 ∷ r.text) ++ r.rest =
        sym (take-append-drop 2 (drop n bytes)) ∙ (λ i. two i ++ (drop-drop 2 n bytes ∙ r.whole) i) in
        let count : length content ≡ n = omega (arith, within, length-take n bytes) in
        let place = r.place in
        let sum : length (b ++ content) ≡ length b + n = omega (arith, count, length-append b content) in record {
          text = content ++ (13 ∷ 10 ∷ r.text);
          rest = r.rest;
          whole = joined n bytes (13 ∷ 10 ∷ r.text) r.rest after;
          place = omega (arith, place, count, length-append content (13 ∷ 10 ∷ r.text));
          is = (
            content,
            is.0,
            r.text,
            refl,
            count,
            is.1 ∙ append_assoc b content is.0,
            subst (λ (k : ℕ). Chunks k is.0 r.text) sum is.2,
          );
        }

    by_count : (t : Bool) → nat_lt (length bytes) (n + 2) ≡ t → IsRestRead (Data n) b at bytes body end
    by_count true t = absurd (no_wait (Data n) b at bytes body end e (cond-true (nat_lt (length bytes) (n + 2)) waits (data_turn n b at bytes) t))
    by_count false t =
        by_end (ltb-false _ _ t) (cond-false (nat_lt (length bytes) (n + 2)) waits (data_turn n b at bytes) t) (has_line_end (drop n bytes)) refl

trailer_rest : (search : Search) (b : List ℕ) (at : ℕ) (bytes body : List ℕ) (end : ℕ) → body_from (Trailer search) b at bytes ≡ ended body end
    → IsRestRead (Trailer search) b at bytes body end
trailer_rest search b at bytes body end e = by_line (first_empty_line Fresh (take max_trailer bytes)) refl
  where
    by_window : (t : Bool) → nat_lt (length bytes) max_trailer ≡ t → first_empty_line Fresh (take max_trailer bytes) ≡ None → ⊥
    by_window true t found =
        no_wait (Trailer search) b at bytes body end e
        (ap (trailer_turn b at bytes) found ∙ cond-true (nat_lt (length bytes) max_trailer) waits (fails (fault_at BadChunk at)) t)
    by_window false t found =
        no_fault (Trailer search) b at bytes body end e (fault_at BadChunk at)
        (ap (trailer_turn b at bytes) found ∙ cond-false (nat_lt (length bytes) max_trailer) waits (fails (fault_at BadChunk at)) t)

    by_line : (o : Option ℕ) → first_empty_line Fresh (take max_trailer bytes) ≡ o → IsRestRead (Trailer search) b at bytes body end
    by_line None found = absurd (by_window (nat_lt (length bytes) max_trailer) refl found)
    by_line (Some n) found =
        let close = closes (Trailer search) b at bytes body end e b n (ap (trailer_turn b at bytes) found) in
        let window = end_of_window Fresh max_trailer n bytes found in
        let low = window.0.low in
        let count = window.0.count in
        let place = close.2 in record {
          text = take n bytes;
          rest = drop n bytes;
          whole = sym (take-append-drop n bytes);
          place = omega (arith, place, count);
          is = (sym close.1, window.1, omega (arith, count, low));
        }

-- what was read as the rest of a body is one
rest_read : (fuel : ℕ) (part : Part) (b : List ℕ) (at : ℕ) (bytes body : List ℕ) (end : ℕ) → length bytes < fuel
    → body_from part b at bytes ≡ ended body end → IsRestRead part b at bytes body end
rest_read zero part b at bytes body end small e = absurd (omega arith)
rest_read (suc fuel) part b at bytes body end small e =
    by_part part e (λ next later k some within f. rest_read fuel next later (at + k) (drop k bytes) body end (omega (arith, some, within, small, length-drop k bytes)) f)
  where
    by_part : (part : Part) → body_from part b at bytes ≡ ended body end → IsKnown at bytes body end → IsRestRead part b at bytes body end
    by_part (Length n) e known = length_rest n b at bytes body end e
    by_part (Line sought) e known = line_rest sought b at bytes body end known e
    by_part (Data n) e known = data_rest n b at bytes body end known e
    by_part (Trailer search) e known = trailer_rest search b at bytes body end e

-- ---- a body

-- the bytes begin with a spelling of the body
pub record IsBodyRead (framing : Framing) (at : ℕ) (bytes body : List ℕ) (end : ℕ) : Type 0 where
  pub text : List ℕ
  pub rest : List ℕ
  pub whole : bytes ≡ text ++ rest
  pub place : end ≡ at + length text
  pub spells : SpellsBody framing body text

pub body_is_spelled : (framing : Framing) (at : ℕ) (bytes body : List ℕ) (end : ℕ) → body_from (first_part framing) [] at bytes ≡ ended body end
    → IsBodyRead framing at bytes body end
body_is_spelled framing at bytes body end e =
    by_framing framing (rest_read (suc (length bytes)) (first_part framing) [] at bytes body end (omega arith) e)
  where
    by_framing : (framing : Framing) → IsRestRead (first_part framing) [] at bytes body end → IsBodyRead framing at bytes body end
    by_framing framed.Unstated r =
        let none = nil_from_length r.text r.is.0 in
        record { text = r.text; rest = r.rest; whole = r.whole; place = r.place; spells = (r.is.1 ∙ none, none) }
    by_framing (framed.Length n) r =
        record { text = r.text; rest = r.rest; whole = r.whole; place = r.place; spells = (ap length r.is.1 ∙ r.is.0, sym r.is.1) }
    by_framing framed.Chunked r =
        let chunks = subst (λ (xs : List ℕ). Chunks 0 xs r.text) (sym r.is.1) r.is.2 in
        record { text = r.text; rest = r.rest; whole = r.whole; place = r.place; spells = chunks }
