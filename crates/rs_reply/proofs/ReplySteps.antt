-- The steps of a reply's reading.
use Rattle.std.proofs.Common.{◌≡◌, ℕ, ◌+◌, ◌-◌, ◌/◌, ◌<◌, ◌≤◌, Bool, true, false, cond, eqb, List, ◌++◌, map, take, drop, length, Option, Some, None, Result, Ok, Err, refl, sym, ap, ◌∙◌, arith}
use Rattle.std.specs.Prelude.{nat_lt}
use Rattle.std.specs.Option.{option_map_or}
use Rattle.std.proofs.lemmas.List.{length-take, length-drop, take_all}
use Rattle.std.proofs.lemmas.Bool.{cond-true, cond-false, lt-ltb, le-ltb, ltb-false, eq-eqb, ne_eqb}
use Rattle.httparse.specs.Grammar.{ResponseHead}
use Rattle.httparse.specs.declared.spans.HeaderSpan.{HeaderSpan}
use Rattle.httparse.specs.declared.spans.ResponseSpans.{ResponseSpans}
use Rattle.httparse.specs.Spans.{header_bytes}
use Rattle.rs_request.specs.declared.field.Field.{Field}
use Rattle.rs_request.specs.declared.fault.WireWhy.{WireWhy}
use Rattle.rs_request.specs.declared.framing.Framing.{Framing}
use Rattle.rs_request.specs.Limits.{max_head, max_chunk_line, max_trailer}
use Rattle.rs_reply.specs.declared.reply.Chunk.{Chunk}
use Rattle.rs_reply.specs.declared.reply.ReplyHead.{ReplyHead}
use Rattle.rs_request.specs.declared.search.Search.{Search}
use Rattle.rs_request.specs.declared.search.Spot.{Spot}
use Rattle.rs_request.specs.declared.search.Spot.TheVariants.{Before, Fresh}
use Rattle.rs_request.specs.Bodies.{has_line_end}
use Rattle.rs_request.specs.ChunkTexts.{size_of}
use Rattle.rs_request.specs.Framing.{stated}
use Rattle.rs_request.specs.Lines.{first_empty_line, first_line, past_breaks, spot_after}
use Rattle.rs_reply.specs.ReplyTexts.{response_head}
use Rattle.rs_request.specs.RequestHeads.{fields_of, pair_fields}
use Rattle.rs_reply.specs.Replies.{IsResponseIn, reply_head_of, judged_reply, first_byte, reply_ending, reply_head_at, head_step, last_head, IsHeadIn, trailer_ending, trailer_end, last_chunk, data_chunk, sized_chunk, chunk_ending, chunk_at, IsChunkIn, chunk_step, chunks_from, reply_body, reply_framing, ended_reply, framed_reply, headed_reply, reply_of}
use Rattle.std.proofs.Common.{ControlFlow, Continue, Break}
use Rattle.rs_request.specs.Sought.{IsSought}
use Rattle.rs_reply.specs.Writing.{has_no_body}
use Rattle.rs_request.proofs.Cited.{pair_fields_of, empty_line_is_found, first_line_is_first}
use Rattle.rs_reply.proofs.RunLemmas.{run_done, run_on}

-- ---- searches

fresh : (start : Spot) (s : Search) (bytes : List ℕ) → s ≡ record { sought = 0; spot = start } → IsSought start s bytes
fresh start s bytes e = record {
  within = omega (arith, ap (λ (s : Search). s.sought) e);
  spot = (λ i. spot_after start (take (e i).sought bytes)) ∙ ap (λ (s : Search). Some s.spot) (sym e);
}

-- a search from the start answers the first empty line
pub sought_front : (start : Spot) (window bytes : List ℕ) (s : Search) (r : Option ℕ) → window ≡ bytes → s ≡ record { sought = 0; spot = start }
    → ((start : Spot) → IsSought start s window → r ≡ first_empty_line start window) → first_empty_line start bytes ≡ r
sought_front start window bytes s r e is found = ap (first_empty_line start) (sym e) ∙ sym (found start (fresh start s window is))

-- the rest of the bytes is all of it
pub rest_all : (bytes : List ℕ) (at : ℕ) → take (length bytes - at) (drop at bytes) ≡ drop at bytes
rest_all bytes at = take_all (length bytes - at) (drop at bytes) (omega (arith, length-drop at bytes))

-- ---- heads

pub judged_reply_none : (at end : ℕ) (text : List ℕ) → response_head text ≡ None → judged_reply at end text ≡ Err at
unfolding judged_reply
judged_reply_none at end text none = ap (λ o. option_map_or (λ h. Ok (reply_head_of at end h)) o (Err at)) none

pub judged_reply_parts : (at end : ℕ) (text : List ℕ) (room : List HeaderSpan) (spans : ResponseSpans) (parts : IsResponseIn text room spans) (fields : List Field)
    → fields ≡ pair_fields (map (header_bytes text) (take spans.headers room))
    → judged_reply at end text ≡ Ok (record { status = spans.code; fields = fields; place = at; end = end })
unfolding judged_reply
judged_reply_parts at end text room spans parts fields f =
    let code = sym parts.at.code in
    let all : fields_of parts.head.fields ≡ fields = sym (f ∙ ap pair_fields parts.at.fields ∙ pair_fields_of parts.head.fields) in
    ap (λ o. option_map_or (λ h. Ok (reply_head_of at end h)) o (Err at)) parts.is
    ∙ (λ i. Ok (record { status = code i; fields = all i; place = at; end = end }))

judged_in : (bytes : List ℕ) (at place end : ℕ) (text : List ℕ) → at < end → end ≤ length bytes → IsHeadIn bytes at (judged_reply place end text)
unfolding judged_reply
judged_in bytes at place end text low high = by_head (response_head text)
  where
    by_head : (o : Option ResponseHead) → IsHeadIn bytes at (option_map_or (λ h. Ok (reply_head_of place end h)) o (Err place))
    by_head None = tt
    by_head (Some h) = (low, high)

pub head_in : (bytes : List ℕ) (at : ℕ) → at ≤ length bytes → IsHeadIn bytes at (reply_head_at bytes at)
unfolding reply_head_at
head_in bytes at inside = by_line (first_empty_line Before (take max_head (drop at bytes))) refl
  where
    by_test : (t : Bool) → IsHeadIn bytes at (cond t (Err (length bytes)) (Err (first_byte bytes at)))
    by_test true = tt
    by_test false = tt

    by_line : (o : Option ℕ) → first_empty_line Before (take max_head (drop at bytes)) ≡ o → IsHeadIn bytes at (reply_ending bytes at o)
    by_line None e = by_test (nat_lt (length (drop at bytes)) max_head)
    by_line (Some n) e =
        let line = empty_line_is_found Before (take max_head (drop at bytes)) n e in
        let some = line.some in
        let high = line.within in
        judged_in bytes at (first_byte bytes at) (at + n) (past_breaks (take n (drop at bytes))) (omega arith)
        (omega (arith, length-take max_head (drop at bytes), length-drop at bytes))

pub head_short : (bytes : List ℕ) (at : ℕ) → first_empty_line Before (take max_head (drop at bytes)) ≡ None → length (drop at bytes) < max_head
    → reply_head_at bytes at ≡ Err (length bytes)
unfolding reply_head_at
head_short bytes at none short = ap (reply_ending bytes at) none ∙ cond-true _ _ _ (lt-ltb _ _ short)

pub head_full : (bytes : List ℕ) (at : ℕ) → first_empty_line Before (take max_head (drop at bytes)) ≡ None → max_head ≤ length (drop at bytes)
    → reply_head_at bytes at ≡ Err (first_byte bytes at)
unfolding reply_head_at
head_full bytes at none full = ap (reply_ending bytes at) none ∙ cond-false _ _ _ (le-ltb _ _ full)

pub head_whole : (bytes : List ℕ) (at n : ℕ) → first_empty_line Before (take max_head (drop at bytes)) ≡ Some n
    → reply_head_at bytes at ≡ judged_reply (first_byte bytes at) (at + n) (past_breaks (take n (drop at bytes)))
unfolding reply_head_at
head_whole bytes at n found = ap (reply_ending bytes at) found

-- ---- heads, one after another

abbrev At : List ℕ → ℕ → Type 0
At bytes at = at ≤ length bytes

head_less : (bytes : List ℕ) (at to : ℕ) → At bytes at → head_step (reply_head_at bytes at) ≡ Continue to → At bytes to × (length bytes - to < length bytes - at)
head_less bytes at to inside e = by_head (reply_head_at bytes at) (head_in bytes at inside) e
  where
    by_test : (h : ReplyHead) (t : Bool) → IsHeadIn bytes at (Ok h) → cond {A = ControlFlow (Result ReplyHead ℕ) ℕ} t (Continue h.end) (Break (Ok h)) ≡ Continue to → At bytes to × (length bytes - to < length bytes - at)
    by_test h true within e = let same : h.end ≡ to = cc in let low = within.0 in let high = within.1 in (omega arith, omega arith)
    by_test h false within e = cc

    by_head : (r : Result ReplyHead ℕ) → IsHeadIn bytes at r → head_step r ≡ Continue to → At bytes to × (length bytes - to < length bytes - at)
    by_head (Ok h) within e = by_test h (eqb (h.status / 100) 1) within e
    by_head (Err place) within e = cc

pub last_fault : (bytes : List ℕ) (at place : ℕ) → reply_head_at bytes at ≡ Err place → last_head bytes at ≡ Err place
unfolding last_head
last_fault bytes at place e =
    run_done (λ at. head_step (reply_head_at bytes at)) (Err (length bytes)) (λ at. length bytes - at) (At bytes) (head_less bytes) (length bytes) at (Err place)
    (ap head_step e)

pub last_found : (bytes : List ℕ) (at : ℕ) (h : ReplyHead) → reply_head_at bytes at ≡ Ok h → (h.status / 100 ≡ 1 → ⊥) → last_head bytes at ≡ Ok h
unfolding last_head
last_found bytes at h e other =
    run_done (λ at. head_step (reply_head_at bytes at)) (Err (length bytes)) (λ at. length bytes - at) (At bytes) (head_less bytes) (length bytes) at (Ok h)
    (ap head_step e ∙ cond-false _ _ _ (ne_eqb (h.status / 100) 1 other))

pub last_next : (bytes : List ℕ) (at : ℕ) (h : ReplyHead) → at ≤ length bytes → reply_head_at bytes at ≡ Ok h → h.status / 100 ≡ 1
    → last_head bytes at ≡ last_head bytes h.end
unfolding last_head
last_next bytes at h inside e interim =
    run_on (λ at. head_step (reply_head_at bytes at)) (Err (length bytes)) (λ at. length bytes - at) (At bytes) (head_less bytes) (length bytes) at h.end inside
    (omega arith) (ap head_step e ∙ cond-true _ _ _ (eq-eqb (h.status / 100) 1 interim))

-- ---- chunks

pub trailer_short : (bytes : List ℕ) (at : ℕ) → first_empty_line Fresh (take max_trailer (drop at bytes)) ≡ None → length (drop at bytes) < max_trailer
    → trailer_end bytes at ≡ Err (length bytes)
unfolding trailer_end
trailer_short bytes at none short = ap (trailer_ending bytes at) none ∙ cond-true _ _ _ (lt-ltb _ _ short)

pub trailer_full : (bytes : List ℕ) (at : ℕ) → first_empty_line Fresh (take max_trailer (drop at bytes)) ≡ None → max_trailer ≤ length (drop at bytes)
    → trailer_end bytes at ≡ Err at
unfolding trailer_end
trailer_full bytes at none full = ap (trailer_ending bytes at) none ∙ cond-false _ _ _ (le-ltb _ _ full)

pub trailer_whole : (bytes : List ℕ) (at n : ℕ) → first_empty_line Fresh (take max_trailer (drop at bytes)) ≡ Some n → trailer_end bytes at ≡ Ok (at + n)
unfolding trailer_end
trailer_whole bytes at n found = ap (trailer_ending bytes at) found

pub data_short : (bytes : List ℕ) (at line size : ℕ) → length bytes - line < size → data_chunk bytes at line size ≡ Err (length bytes)
unfolding data_chunk
data_short bytes at line size short = cond-true _ _ _ (lt-ltb (length (drop line bytes)) size (omega (arith, length-drop line bytes)))

pub data_no_end : (bytes : List ℕ) (at line size : ℕ) → size ≤ length bytes - line → length bytes - (line + size) < 2 → data_chunk bytes at line size ≡ Err (length bytes)
unfolding data_chunk
data_no_end bytes at line size long short =
    cond-false _ _ _ (le-ltb (length (drop line bytes)) size (omega (arith, length-drop line bytes))) ∙ cond-true _ _ _ (lt-ltb (length (drop (line + size) bytes)) 2 (omega (arith, length-drop (line + size) bytes)))

pub data_ending : (bytes : List ℕ) (at line size : ℕ) (t : Bool) → size ≤ length bytes - line → 2 ≤ length bytes - (line + size) → has_line_end (drop (line + size) bytes) ≡ t
    → data_chunk bytes at line size ≡ cond t (Ok (record { line = line; size = size; end = line + size + 2 })) (Err at)
unfolding data_chunk
data_ending bytes at line size t long some e =
    cond-false _ _ _ (le-ltb (length (drop line bytes)) size (omega (arith, length-drop line bytes)))
    ∙ cond-false _ _ _ (le-ltb (length (drop (line + size) bytes)) 2 (omega (arith, length-drop (line + size) bytes)))
    ∙ ap (λ t. cond t (Ok (record { line = line; size = size; end = line + size + 2 })) (Err at)) e

pub chunk_short : (bytes : List ℕ) (at : ℕ) → first_line (take max_chunk_line (drop at bytes)) ≡ None → length (drop at bytes) < max_chunk_line
    → chunk_at bytes at ≡ Err (length bytes)
unfolding chunk_at
chunk_short bytes at none short = ap (chunk_ending bytes at) none ∙ cond-true _ _ _ (lt-ltb _ _ short)

pub chunk_full : (bytes : List ℕ) (at : ℕ) → first_line (take max_chunk_line (drop at bytes)) ≡ None → max_chunk_line ≤ length (drop at bytes)
    → chunk_at bytes at ≡ Err at
unfolding chunk_at
chunk_full bytes at none full = ap (chunk_ending bytes at) none ∙ cond-false _ _ _ (le-ltb _ _ full)

pub chunk_unsized : (bytes : List ℕ) (at n : ℕ) → first_line (take max_chunk_line (drop at bytes)) ≡ Some n → size_of (take n (drop at bytes)) ≡ None
    → chunk_at bytes at ≡ Err at
unfolding chunk_at
chunk_unsized bytes at n found none = ap (chunk_ending bytes at) found ∙ ap (sized_chunk bytes at (at + n)) none

pub chunk_of_data : (bytes : List ℕ) (at n size : ℕ) → first_line (take max_chunk_line (drop at bytes)) ≡ Some n → size_of (take n (drop at bytes)) ≡ Some size
    → (size ≡ 0 → ⊥) → chunk_at bytes at ≡ data_chunk bytes at (at + n) size
unfolding chunk_at
chunk_of_data bytes at n size found is some =
    ap (chunk_ending bytes at) found ∙ ap (sized_chunk bytes at (at + n)) is ∙ cond-false _ _ _ (ne_eqb size 0 some)

pub chunk_of_none : (bytes : List ℕ) (at n size : ℕ) → first_line (take max_chunk_line (drop at bytes)) ≡ Some n → size_of (take n (drop at bytes)) ≡ Some size
    → size ≡ 0 → chunk_at bytes at ≡ last_chunk (at + n) (trailer_end bytes (at + n))
unfolding chunk_at
chunk_of_none bytes at n size found is none =
    ap (chunk_ending bytes at) found ∙ ap (sized_chunk bytes at (at + n)) is ∙ cond-true _ _ _ (eq-eqb size 0 none)

-- ---- chunks, one after another

data_in : (bytes : List ℕ) (at line size : ℕ) → at < line → line ≤ length bytes → IsChunkIn bytes at (data_chunk bytes at line size)
unfolding data_chunk
data_in bytes at line size low high = by_data (nat_lt (length (drop line bytes)) size)
  where
    by_end : (s t : Bool) → nat_lt (length (drop (line + size) bytes)) 2 ≡ s
        → IsChunkIn bytes at (cond s (Err (length bytes)) (cond t (Ok (record { line = line; size = size; end = line + size + 2 })) (Err at)))
    by_end true t e = tt
    by_end false true e = (low, omega arith, omega (arith, ltb-false _ _ e, length-drop (line + size) bytes))
    by_end false false e = tt

    by_data : (r : Bool) → IsChunkIn bytes at (cond r (Err (length bytes)) (cond (nat_lt (length (drop (line + size) bytes)) 2) (Err (length bytes))
        (cond (has_line_end (drop (line + size) bytes)) (Ok (record { line = line; size = size; end = line + size + 2 })) (Err at))))
    by_data true = tt
    by_data false = by_end (nat_lt (length (drop (line + size) bytes)) 2) (has_line_end (drop (line + size) bytes)) refl

last_in : (bytes : List ℕ) (at line : ℕ) → at < line → line ≤ length bytes → IsChunkIn bytes at (last_chunk line (trailer_end bytes line))
unfolding trailer_end
last_in bytes at line low high = by_line (first_empty_line Fresh (take max_trailer (drop line bytes))) refl
  where
    by_test : (t : Bool) → IsChunkIn bytes at (last_chunk line (cond t (Err (length bytes)) (Err line)))
    by_test true = tt
    by_test false = tt

    by_line : (o : Option ℕ) → first_empty_line Fresh (take max_trailer (drop line bytes)) ≡ o → IsChunkIn bytes at (last_chunk line (trailer_ending bytes line o))
    by_line None e = by_test (nat_lt (length (drop line bytes)) max_trailer)
    by_line (Some n) e =
        let within = (empty_line_is_found Fresh (take max_trailer (drop line bytes)) n e).within in
        (low, omega arith, omega (arith, length-take max_trailer (drop line bytes), length-drop line bytes))

pub chunk_in : (bytes : List ℕ) (at : ℕ) → at ≤ length bytes → IsChunkIn bytes at (chunk_at bytes at)
unfolding chunk_at
chunk_in bytes at inside = by_line (first_line (take max_chunk_line (drop at bytes))) refl
  where
    by_test : (t : Bool) → IsChunkIn bytes at (cond t (Err (length bytes)) (Err at))
    by_test true = tt
    by_test false = tt

    by_zero : (line size : ℕ) (t : Bool) → at < line → line ≤ length bytes
        → IsChunkIn bytes at (cond t (last_chunk line (trailer_end bytes line)) (data_chunk bytes at line size))
    by_zero line size true low high = last_in bytes at line low high
    by_zero line size false low high = data_in bytes at line size low high

    by_size : (line : ℕ) (o : Option ℕ) → at < line → line ≤ length bytes → IsChunkIn bytes at (sized_chunk bytes at line o)
    by_size line None low high = tt
    by_size line (Some size) low high = by_zero line size (eqb size 0) low high

    by_line : (o : Option ℕ) → first_line (take max_chunk_line (drop at bytes)) ≡ o → IsChunkIn bytes at (chunk_ending bytes at o)
    by_line None e = by_test (nat_lt (length (drop at bytes)) max_chunk_line)
    by_line (Some n) e =
        let line = first_line_is_first (take max_chunk_line (drop at bytes)) n e in
        let some = line.some in
        let high = line.within in
        by_size (at + n) (size_of (take n (drop at bytes))) (omega arith) (omega (arith, length-take max_chunk_line (drop at bytes), length-drop at bytes))

abbrev Now : List ℕ → List ℕ × ℕ → Type 0
Now bytes s = s.1 ≤ length bytes

chunk_less : (bytes : List ℕ) (s to : List ℕ × ℕ) → Now bytes s → chunk_step bytes s.0 (chunk_at bytes s.1) ≡ Continue to → Now bytes to × (length bytes - to.1 < length bytes - s.1)
chunk_less bytes s to inside e = by_chunk (chunk_at bytes s.1) (chunk_in bytes s.1 inside) e
  where
    by_test : (c : Chunk) (t : Bool) → IsChunkIn bytes s.1 (Ok c)
        → cond {A = ControlFlow (Result (List ℕ × ℕ) ℕ) (List ℕ × ℕ)} t (Break (Ok (s.0, c.end))) (Continue (s.0 ++ take c.size (drop c.line bytes), c.end)) ≡ Continue to → Now bytes to × (length bytes - to.1 < length bytes - s.1)
    by_test c true within e = cc
    by_test c false within e =
        let next : List ℕ × ℕ = (s.0 ++ take c.size (drop c.line bytes), c.end) in
        let both : next ≡ to = cc in
        let same = ap (λ (p : List ℕ × ℕ). p.1) both in
        let low = within.0 in
        let order = within.1 in
        let high = within.2 in
        (omega (arith, same), omega (arith, same))

    by_chunk : (r : Result Chunk ℕ) → IsChunkIn bytes s.1 r → chunk_step bytes s.0 r ≡ Continue to → Now bytes to × (length bytes - to.1 < length bytes - s.1)
    by_chunk (Ok c) within e = by_test c (eqb c.size 0) within e
    by_chunk (Err place) within e = cc

abbrev StepOf : List ℕ → List ℕ × ℕ → ControlFlow (Result (List ℕ × ℕ) ℕ) (List ℕ × ℕ)
StepOf bytes s = chunk_step bytes s.0 (chunk_at bytes s.1)

pub chunks_fault : (bytes body : List ℕ) (at place : ℕ) → chunk_at bytes at ≡ Err place → chunks_from bytes body at ≡ Err place
unfolding chunks_from
chunks_fault bytes body at place e =
    run_done (StepOf bytes) (Err (length bytes)) (λ s. length bytes - s.1) (Now bytes) (chunk_less bytes) (length bytes) (body, at) (Err place)
    (ap (chunk_step bytes body) e)

pub chunks_last : (bytes body : List ℕ) (at : ℕ) (c : Chunk) → chunk_at bytes at ≡ Ok c → c.size ≡ 0 → chunks_from bytes body at ≡ Ok (body, c.end)
unfolding chunks_from
chunks_last bytes body at c e none =
    run_done (StepOf bytes) (Err (length bytes)) (λ s. length bytes - s.1) (Now bytes) (chunk_less bytes) (length bytes) (body, at) (Ok (body, c.end))
    (ap (chunk_step bytes body) e ∙ cond-true _ _ _ (eq-eqb c.size 0 none))

pub chunks_next : (bytes body : List ℕ) (at : ℕ) (c : Chunk) → at ≤ length bytes → chunk_at bytes at ≡ Ok c → (c.size ≡ 0 → ⊥)
    → chunks_from bytes body at ≡ chunks_from bytes (body ++ take c.size (drop c.line bytes)) c.end
unfolding chunks_from
chunks_next bytes body at c inside e some =
    run_on (StepOf bytes) (Err (length bytes)) (λ s. length bytes - s.1) (Now bytes) (chunk_less bytes) (length bytes) (body, at)
    (body ++ take c.size (drop c.line bytes), c.end) inside (omega arith)
    (ap (chunk_step bytes body) e ∙ cond-false _ _ _ (ne_eqb c.size 0 some))

-- ---- replies

pub reply_no_head : (bodiless : Bool) (bytes : List ℕ) (place : ℕ) → last_head bytes 0 ≡ Err place → reply_of bodiless bytes ≡ Err place
unfolding reply_of
reply_no_head bodiless bytes place e = ap (headed_reply bodiless bytes) e

pub reply_unframed : (bodiless : Bool) (bytes : List ℕ) (h : ReplyHead) (why : WireWhy) → last_head bytes 0 ≡ Ok h → stated h.fields ≡ Err why
    → reply_of bodiless bytes ≡ Err h.place
unfolding reply_of
reply_unframed bodiless bytes h why e f = ap (headed_reply bodiless bytes) e ∙ ap (framed_reply bodiless bytes h) f

-- what its body makes of a reply
reply_ended : (bodiless : Bool) (bytes : List ℕ) (h : ReplyHead) (framing : Framing) (b : Result (List ℕ × ℕ) ℕ) → last_head bytes 0 ≡ Ok h → stated h.fields ≡ Ok framing
    → reply_body bytes h.end (reply_framing (has_no_body bodiless h.status) framing) ≡ b → reply_of bodiless bytes ≡ ended_reply bytes h b
unfolding reply_of
reply_ended bodiless bytes h framing b e f is = ap (headed_reply bodiless bytes) e ∙ ap (framed_reply bodiless bytes h) f ∙ ap (ended_reply bytes h) is

pub reply_no_body : (bodiless : Bool) (bytes : List ℕ) (h : ReplyHead) (framing : Framing) (place : ℕ) → last_head bytes 0 ≡ Ok h → stated h.fields ≡ Ok framing
    → reply_body bytes h.end (reply_framing (has_no_body bodiless h.status) framing) ≡ Err place → reply_of bodiless bytes ≡ Err place
reply_no_body bodiless bytes h framing place e f is = reply_ended bodiless bytes h framing (Err place) e f is

pub reply_unended : (bodiless : Bool) (bytes : List ℕ) (h : ReplyHead) (framing : Framing) (body : List ℕ) (end : ℕ) → last_head bytes 0 ≡ Ok h → stated h.fields ≡ Ok framing
    → reply_body bytes h.end (reply_framing (has_no_body bodiless h.status) framing) ≡ Ok (body, end) → end < length bytes → reply_of bodiless bytes ≡ Err end
reply_unended bodiless bytes h framing body end e f is more =
    reply_ended bodiless bytes h framing (Ok (body, end)) e f is ∙ cond-true _ _ _ (lt-ltb end (length bytes) more)

pub reply_whole : (bodiless : Bool) (bytes : List ℕ) (h : ReplyHead) (framing : Framing) (body : List ℕ) (end : ℕ) → last_head bytes 0 ≡ Ok h → stated h.fields ≡ Ok framing
    → reply_body bytes h.end (reply_framing (has_no_body bodiless h.status) framing) ≡ Ok (body, end) → length bytes ≤ end
    → reply_of bodiless bytes ≡ Ok (record { status = h.status; fields = h.fields; body = body })
reply_whole bodiless bytes h framing body end e f is ended =
    reply_ended bodiless bytes h framing (Ok (body, end)) e f is ∙ cond-false _ _ _ (le-ltb end (length bytes) ended)
