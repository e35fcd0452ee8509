-- What each answer of a reader of a body rests on.
use Rattle.std.proofs.Common.{◌≡◌, ℕ, ◌+◌, ◌-◌, ◌<◌, ◌≤◌, Bool, true, false, cond, eqb, List, ◌++◌, length, take, drop, Option, Some, None, Ok, Err, refl, sym, ap, ◌∙◌, subst, arith}
use Rattle.std.specs.Prelude.{nat_lt}
use Rattle.std.proofs.lemmas.List.{length-append, length-take, take-append-le, drop-append-le, take_all, take-take}
use Rattle.std.proofs.lemmas.Bool.{cond-true, cond-false, lt-ltb, le-ltb}
use Rattle.rs_request.specs.declared.fault.WireWhy.{WireWhy}
use Rattle.rs_request.specs.declared.fault.WireWhy.TheVariants.{BadChunk, BodyLong}
use Rattle.rs_request.specs.declared.body.Part.{Part}
use Rattle.rs_request.specs.declared.body.Part.TheVariants.{Length, Line, Data, Trailer}
use Rattle.rs_request.specs.declared.body.BodyReader.{BodyReader}
use Rattle.rs_request.specs.declared.search.Search.{Search}
use Rattle.rs_request.specs.declared.search.Spot.TheVariants.{Fresh}
use Rattle.rs_path.specs.Limits.{max_body}
use Rattle.rs_request.specs.Limits.{max_chunk_line, max_trailer}
use Rattle.rs_request.specs.Lines.{first_line, first_empty_line}
use Rattle.rs_request.specs.Sought.{IsSought}
use Rattle.rs_request.specs.ChunkTexts.{size_of}
use Rattle.rs_request.specs.Bodies.{part_after, unended, ended, spoiled, waits, goes, ends, fails, fault_at, next_part, size_turn, line_turn, trailer_turn, has_line_end, body_from}
use Rattle.rs_request.specs.BodyReaders.{IsPartAt, IsLineSought, reader_body, Moves}
use Rattle.rs_request.proofs.LinesLemmas.{first_line_is_first, length-window}
use Rattle.rs_request.proofs.BodyLemmas.{body_goes, body_ends, body_fails, body_waits, length_taken, data_taken}

-- what a search remembers changes nothing
trailer_hint : (s t : Search) (body : List ℕ) (at : ℕ) (rest : List ℕ) → body_from (Trailer s) body at rest ≡ body_from (Trailer t) body at rest
unfolding body_from
trailer_hint s t body at rest = refl

line_hint : (s t : ℕ) (body : List ℕ) (at : ℕ) (rest : List ℕ) → body_from (Line s) body at rest ≡ body_from (Line t) body at rest
unfolding body_from
line_hint s t body at rest = refl

-- what is said of the part is said of the reader
of_part : (r : BodyReader) (part : Part) (at : ℕ) (rest : List ℕ) → r.part ≡ part → reader_body r at rest ≡ body_from part r.body.items at rest
of_part r part at rest e = ap (λ p. body_from p r.body.items at rest) e

-- a reader that took nothing
stays : (old new : BodyReader) (part next : Part) (at : ℕ) (rest : List ℕ) → old.part ≡ part → new.part ≡ next → new.body.items ≡ old.body.items
    → ((body xs : List ℕ) → body_from part body at xs ≡ body_from next body at xs) → IsPartAt next rest → Moves old new at 0 rest
stays old new part next at rest p q b same fits =
    let e : at ≡ at + 0 = omega arith in record {
      within = omega arith;
      same = λ more. of_part old part at (rest ++ more) p ∙ same old.body.items (rest ++ more)
          ∙ (λ i. body_from (sym q i) (sym b i) (e i) (rest ++ more));
      fits = subst (λ (n : Part). IsPartAt n rest) (sym q) fits;
    }

-- ---- the trailer

pub trailer_ends : (r : BodyReader) (search : Search) (at n : ℕ) (rest : List ℕ) → r.part ≡ Trailer search
    → first_empty_line Fresh (take max_trailer rest) ≡ Some n → (n ≤ length rest) × (reader_body r at rest ≡ ended r.body.items (at + n))
trailer_ends r search at n rest p found =
    let e = body_ends (Trailer search) r.body.items r.body.items at n rest (ap (trailer_turn r.body.items at rest) found) in
    (e.0, of_part r (Trailer search) at rest p ∙ e.1)

pub trailer_fails : (r : BodyReader) (search : Search) (at : ℕ) (rest : List ℕ) → r.part ≡ Trailer search
    → first_empty_line Fresh (take max_trailer rest) ≡ None → max_trailer ≤ length rest → reader_body r at rest ≡ spoiled (fault_at BadChunk at)
trailer_fails r search at rest p unfound long =
    of_part r (Trailer search) at rest p ∙ body_fails (Trailer search) r.body.items at rest (fault_at BadChunk at)
    (ap (trailer_turn r.body.items at rest) unfound ∙ cond-false _ waits (fails (fault_at BadChunk at)) (le-ltb _ _ long))

pub trailer_waits : (old new : BodyReader) (search next : Search) (at : ℕ) (rest : List ℕ) → old.part ≡ Trailer search → new.part ≡ Trailer next
    → new.body.items ≡ old.body.items → first_empty_line Fresh (take max_trailer rest) ≡ None → length rest < max_trailer
    → IsSought Fresh next (take max_trailer rest) → Moves old new at 0 rest × (reader_body old at rest ≡ unended)
trailer_waits old new search next at rest p q b unfound short sought = (
  stays old new (Trailer search) (Trailer next) at rest p q b (λ body xs. trailer_hint search next body at xs) sought,
  of_part old (Trailer search) at rest p ∙ body_waits (Trailer search) old.body.items at rest
      (ap (trailer_turn old.body.items at rest) unfound ∙ cond-true _ waits (fails (fault_at BadChunk at)) (lt-ltb _ _ short)),
)

-- ---- a chunk's line

pub line_within : (n : ℕ) (rest : List ℕ) → first_line (take max_chunk_line rest) ≡ Some n → n ≤ length rest
line_within n rest found =
    let first = first_line_is_first (take max_chunk_line rest) n found in
    let w = first.within in
    omega (arith, length-window max_chunk_line rest)

pub line_sought : (sought : ℕ) (rest : List ℕ) → IsLineSought sought rest
    → (sought ≤ length (take max_chunk_line rest)) × (first_line (take sought (take max_chunk_line rest)) ≡ None)
line_sought sought rest fits =
    let low = fits.low in
    let within = fits.within in
    (omega (arith, length-take max_chunk_line rest), ap first_line (take-take sought max_chunk_line rest low) ∙ fits.unfound)

-- the part after a line has searched nothing yet
pub next_fits : (so_far : ℕ) (o : Option ℕ) (next : Part) (rest : List ℕ) → next_part so_far o ≡ Ok next → IsPartAt next rest
next_fits so_far None next rest e = cc
next_fits so_far (Some size) next rest e = by_limit (nat_lt max_body (so_far + size)) e
  where
    by_size : (t : Bool) → IsPartAt (cond t (Trailer (record { sought = 0; spot = Fresh })) (Data size)) rest
    by_size true = record { within = omega arith; spot = refl }
    by_size false = tt

    by_limit : (t : Bool) → cond t (Err BodyLong) (Ok (part_after size)) ≡ Ok next → IsPartAt next rest
    by_limit true e = cc
    by_limit false e = let same : part_after size ≡ next = cc in subst (λ (m : Part). IsPartAt m rest) same (by_size (eqb size 0))

pub line_goes : (old new : BodyReader) (sought at n : ℕ) (next : Part) (rest : List ℕ) → old.part ≡ Line sought → new.part ≡ next
    → new.body.items ≡ old.body.items → first_line (take max_chunk_line rest) ≡ Some n
    → next_part (length old.body.items) (size_of (take n rest)) ≡ Ok next → IsPartAt next (drop n rest) → Moves old new at n rest × (0 < n)
line_goes old new sought at n next rest p q b found size fits =
    let e = ap (line_turn old.body.items at rest) found ∙ ap (size_turn old.body.items at n) size in
    let step = body_goes (Line sought) next old.body.items old.body.items at n rest e in (
      record {
        within = step.1;
        same = λ more. of_part old (Line sought) at (rest ++ more) p ∙ step.2 more
            ∙ (λ i. body_from (sym q i) (sym b i) (at + n) (drop n rest ++ more));
        fits = subst (λ (m : Part). IsPartAt m (drop n rest)) (sym q) fits;
      },
      step.0,
    )

pub line_fails : (r : BodyReader) (sought at n : ℕ) (why : WireWhy) (rest : List ℕ) → r.part ≡ Line sought
    → first_line (take max_chunk_line rest) ≡ Some n → next_part (length r.body.items) (size_of (take n rest)) ≡ Err why
    → reader_body r at rest ≡ spoiled (fault_at why at)
line_fails r sought at n why rest p found size =
    of_part r (Line sought) at rest p ∙ body_fails (Line sought) r.body.items at rest (fault_at why at)
    (ap (line_turn r.body.items at rest) found ∙ ap (size_turn r.body.items at n) size)

pub line_long : (r : BodyReader) (sought at : ℕ) (rest : List ℕ) → r.part ≡ Line sought
    → first_line (take max_chunk_line rest) ≡ None → max_chunk_line ≤ length rest → reader_body r at rest ≡ spoiled (fault_at BadChunk at)
line_long r sought at rest p unfound long =
    of_part r (Line sought) at rest p ∙ body_fails (Line sought) r.body.items at rest (fault_at BadChunk at)
    (ap (line_turn r.body.items at rest) unfound ∙ cond-false _ waits (fails (fault_at BadChunk at)) (le-ltb _ _ long))

pub line_waits : (old new : BodyReader) (sought at : ℕ) (rest : List ℕ) → old.part ≡ Line sought → new.part ≡ Line (length rest)
    → new.body.items ≡ old.body.items → first_line (take max_chunk_line rest) ≡ None → length rest < max_chunk_line
    → Moves old new at 0 rest × (reader_body old at rest ≡ unended)
line_waits old new sought at rest p q b unfound short =
    let whole : take max_chunk_line rest ≡ take (length rest) rest = take_all max_chunk_line rest (omega arith) ∙ sym (take_all (length rest) rest (omega arith)) in
    let fits : IsLineSought (length rest) rest = record { low = omega arith; within = omega arith; unfound = ap first_line (sym whole) ∙ unfound } in (
      stays old new (Line sought) (Line (length rest)) at rest p q b (λ body xs. line_hint sought (length rest) body at xs) fits,
      of_part old (Line sought) at rest p ∙ body_waits (Line sought) old.body.items at rest
          (ap (line_turn old.body.items at rest) unfound ∙ cond-true _ waits (fails (fault_at BadChunk at)) (lt-ltb _ _ short)),
    )

-- ---- bytes of known number

-- the reader took the first bytes of a part
taken : (old new : BodyReader) (part next : Part) (at k : ℕ) (rest : List ℕ) → old.part ≡ part → new.part ≡ next
    → new.body.items ≡ old.body.items ++ take k rest → k ≤ length rest → IsPartAt next (drop k rest)
    → ((xs : List ℕ) → k ≤ length xs → body_from part old.body.items at xs ≡ body_from next (old.body.items ++ take k xs) (at + k) (drop k xs))
    → Moves old new at k rest
taken old new part next at k rest p q b within fits same = record {
  within = within;
  same = λ more.
      let first : take k (rest ++ more) ≡ take k rest = take-append-le k rest more within in
      let later : drop k (rest ++ more) ≡ drop k rest ++ more = drop-append-le k rest more within in
      of_part old part at (rest ++ more) p ∙ same (rest ++ more) (omega (arith, length-append rest more))
      ∙ (λ i. body_from (sym q i) (old.body.items ++ first i) (at + k) (later i))
      ∙ (λ i. body_from new.part (sym b i) (at + k) (drop k rest ++ more));
  fits = subst (λ (m : Part). IsPartAt m (drop k rest)) (sym q) fits;
}

pub length_ends : (old new : BodyReader) (at n : ℕ) (rest : List ℕ) → old.part ≡ Length n → new.body.items ≡ old.body.items ++ take n rest
    → n ≤ length rest → (n ≤ length rest) × (reader_body old at rest ≡ ended new.body.items (at + n))
length_ends old new at n rest p b enough = (
  enough,
  of_part old (Length n) at rest p
      ∙ (body_ends (Length n) old.body.items (old.body.items ++ take n rest) at n rest (cond-false _ waits (ends (old.body.items ++ take n rest) n) (le-ltb _ _ enough))).1
      ∙ ap (λ body. ended body (at + n)) (sym b),
)

pub length_waits : (old new : BodyReader) (at n k : ℕ) (rest : List ℕ) → old.part ≡ Length n → new.part ≡ Length (n - k)
    → new.body.items ≡ old.body.items ++ take k rest → k ≡ length rest → length rest < n → Moves old new at k rest × (reader_body old at rest ≡ unended)
length_waits old new at n k rest p q b all short = (
  taken old new (Length n) (Length (n - k)) at k rest p q b (omega arith) tt (λ xs within. length_taken n k old.body.items at xs (omega arith) within),
  of_part old (Length n) at rest p
      ∙ body_waits (Length n) old.body.items at rest (cond-true _ waits (ends (old.body.items ++ take n rest) n) (lt-ltb _ _ short)),
)

-- so many bytes and CR LF aren't there yet
pub data_waits : (old new : BodyReader) (at n k : ℕ) (rest : List ℕ) → old.part ≡ Data n → new.part ≡ Data (n - k)
    → new.body.items ≡ old.body.items ++ take k rest → k ≤ n → k ≤ length rest → length rest < n + 2
    → Moves old new at k rest × (reader_body old at rest ≡ unended)
data_waits old new at n k rest p q b low within short = (
  taken old new (Data n) (Data (n - k)) at k rest p q b within tt (λ xs enough. data_taken n k old.body.items at xs low enough),
  of_part old (Data n) at rest p ∙ body_waits (Data n) old.body.items at rest (cond-true _ waits _ (lt-ltb _ _ short)),
)

pub data_fails : (r : BodyReader) (at n : ℕ) (rest : List ℕ) → r.part ≡ Data n → n + 2 ≤ length rest → has_line_end (drop n rest) ≡ false
    → reader_body r at rest ≡ spoiled (fault_at BadChunk (at + n))
data_fails r at n rest p enough bad =
    of_part r (Data n) at rest p ∙ body_fails (Data n) r.body.items at rest (fault_at BadChunk (at + n))
    (cond-false _ waits _ (le-ltb _ _ enough) ∙ cond-false _ (goes (Line 0) (r.body.items ++ take n rest) (n + 2)) (fails (fault_at BadChunk (at + n))) bad)

pub data_goes : (old new : BodyReader) (at n : ℕ) (rest : List ℕ) → old.part ≡ Data n → new.part ≡ Line 0
    → new.body.items ≡ old.body.items ++ take n rest → n + 2 ≤ length rest → has_line_end (drop n rest) ≡ true
    → Moves old new at (n + 2) rest × (0 < n + 2)
data_goes old new at n rest p q b enough good =
    let e = cond-false (nat_lt (length rest) (n + 2)) waits _ (le-ltb _ _ enough)
    ∙ cond-true _ (goes (Line 0) (old.body.items ++ take n rest) (n + 2)) (fails (fault_at BadChunk (at + n))) good in
    let step = body_goes (Data n) (Line 0) old.body.items (old.body.items ++ take n rest) at (n + 2) rest e in
    let fits : IsLineSought 0 (drop (n + 2) rest) = record { low = omega arith; within = omega arith; unfound = refl } in (
      record {
        within = step.1;
        same = λ more. of_part old (Data n) at (rest ++ more) p ∙ step.2 more
            ∙ (λ i. body_from (sym q i) (sym b i) (at + (n + 2)) (drop (n + 2) rest ++ more));
        fits = subst (λ (m : Part). IsPartAt m (drop (n + 2) rest)) (sym q) fits;
      },
      step.0,
    )
