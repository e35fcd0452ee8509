-- What is read as a reply is spelled so.
use Rattle.std.proofs.Common.{◌≡◌, ℕ, zero, suc, ◌+◌, ◌/◌, ◌<◌, ◌≤◌, Bool, true, false, cond, eqb, List, [], ◌∷◌, ◌++◌, length, take, drop, Option, Some, None, Result, Ok, Err, refl, sym, ap, ◌∙◌, subst, arith}
use Rattle.std.specs.Prelude.{nat_lt}
use Rattle.std.specs.Option.{option_map_or}
use Rattle.std.proofs.lemmas.List.{append-nil, append_assoc, length-append, length-take, length-drop, take_all, take_at, drop_at, take-append-drop, drop-drop, nil_from_length}
use Rattle.std.proofs.lemmas.Bool.{ltb-false, eqb-true, eqb-false}
use Rattle.std.proofs.lemmas.Slice.Eq.{bytes_eq-Decides}
use Rattle.httparse.specs.Grammar.{ResponseHead, print_response, status_code}
use Rattle.httparse.proofs.GrammarLemmas.{print_response-append}
use Rattle.rs_request.specs.declared.fault.WireWhy.{WireWhy}
use Rattle.rs_request.specs.declared.framing.Framing.{Framing}
use Rattle.rs_request.specs.declared.framing.Framing.TheVariants as framed
use Rattle.rs_reply.specs.declared.message.ReplyMessage.{ReplyMessage}
use Rattle.rs_reply.specs.declared.reply.Chunk.{Chunk}
use Rattle.rs_reply.specs.declared.reply.ReplyHead.{ReplyHead}
use Rattle.rs_request.specs.declared.search.Spot.TheVariants.{Before, Fresh}
use Rattle.rs_request.specs.Limits.{max_head, max_chunk_line, max_trailer}
use Rattle.rs_request.specs.Bodies.{has_line_end}
use Rattle.rs_request.specs.ChunkTexts.{size_of}
use Rattle.rs_request.specs.Lines.{past_breaks, first_line, first_empty_line}
use Rattle.rs_request.specs.Framing.{stated}
use Rattle.rs_reply.specs.ReplyTexts.{response_head}
use Rattle.rs_request.specs.RequestHeads.{fields_of}
use Rattle.rs_reply.specs.Replies.{reply_head_of, judged_reply, first_byte, reply_ending, reply_head_at, head_step, last_head, trailer_ending, trailer_end, last_chunk, data_chunk, sized_chunk, chunk_ending, chunk_at, chunk_step, chunks_from, reply_body, reply_framing, ended_reply, framed_reply, headed_reply, reply_of}
use Rattle.std.proofs.Common.{ControlFlow, Continue, Break}
use Rattle.rs_reply.specs.Runs.{after_flow, run}
use Rattle.rs_request.specs.Spelling.{IsLine}
use Rattle.rs_reply.specs.ReplySpelling.{SpellsHead, Interims, none, skipped, ReplyChunks, chunk, last, SpellsReplyBody, SpellsReply}
use Rattle.rs_reply.specs.Writing.{has_no_body}
use Rattle.rs_request.proofs.Cited.{no_blank, past_breaks_twice, line_of_window, end_of_window, broken}
use Rattle.rs_reply.proofs.ReplyLemmas.{response_reads}

-- ---- a head

-- the head at the place is spelled by the bytes there
record IsHeadTaken (bytes : List ℕ) (at : ℕ) (r : ReplyHead) : Type 0 where
  head : ResponseHead
  text : List ℕ
  rest : List ℕ
  spells : SpellsHead head text
  whole : drop at bytes ≡ text ++ rest
  is : r ≡ reply_head_of (first_byte bytes at) (at + length text) head

judged_is : (at end : ℕ) (text : List ℕ) (r : ReplyHead) → judged_reply at end text ≡ Ok r
    → (h : ResponseHead) × (response_head text ≡ Some h) × (r ≡ reply_head_of at end h)
unfolding judged_reply
judged_is at end text r e = by_head (response_head text) refl e
  where
    by_head : (o : Option ResponseHead) → response_head text ≡ o → option_map_or (λ h. Ok (reply_head_of at end h)) o (Err at) ≡ Ok r
        → (h : ResponseHead) × (response_head text ≡ Some h) × (r ≡ reply_head_of at end h)
    by_head None f e = cc
    by_head (Some h) f e = let same : reply_head_of at end h ≡ r = cc in (h, f, sym same)

head_is_taken : (bytes : List ℕ) (at : ℕ) (r : ReplyHead) → reply_head_at bytes at ≡ Ok r → IsHeadTaken bytes at r
unfolding reply_head_at
head_is_taken bytes at r e = by_line (first_empty_line Before (take max_head (drop at bytes))) refl e
  where
    by_test : (t : Bool) (a b : ℕ) → cond {A = Result ReplyHead ℕ} t (Err a) (Err b) ≡ Ok r → ⊥
    by_test true a b e = cc
    by_test false a b e = cc

    by_line : (o : Option ℕ) → first_empty_line Before (take max_head (drop at bytes)) ≡ o → reply_ending bytes at o ≡ Ok r → IsHeadTaken bytes at r
    by_line None found e = absurd (by_test (nat_lt (length (drop at bytes)) max_head) (length bytes) (first_byte bytes at) e)
    by_line (Some n) found e =
        let window = end_of_window Before max_head n (drop at bytes) found in
        let low = window.0.low in
        let count = window.0.count in
        let T = take n (drop at bytes) in
        let is = judged_is (first_byte bytes at) (at + n) (past_breaks T) r e in
        let h = is.0 in
        let reads = response_reads (past_breaks T) h is.1 in
        let split = broken T in record {
          head = h;
          text = T;
          rest = drop n (drop at bytes);
          spells = record {
            breaks = split.breaks;
            dropped = split.dropped;
            valid = reads.0;
            first = no_blank h.blank (past_breaks T) _ (past_breaks_twice T) (reads.1 ∙ print_response-append h []);
            whole = split.whole ∙ ap (λ xs. split.breaks ++ xs) (reads.1 ∙ append-nil (print_response h));
            ends = window.1;
            short = omega (arith, count, low);
          };
          whole = sym (take-append-drop n (drop at bytes));
          is = is.2 ∙ ap (λ k. reply_head_of (first_byte bytes at) (at + k) h) (sym count);
        }

-- the head that no other follows is spelled, after interim ones
record IsLastTaken (bytes : List ℕ) (at : ℕ) (r : ReplyHead) : Type 0 where
  interims : List ℕ
  text : List ℕ
  rest : List ℕ
  head : ResponseHead
  place : ℕ
  before : Interims interims
  spells : SpellsHead head text
  final : status_code head / 100 ≡ 1 → ⊥
  whole : drop at bytes ≡ interims ++ (text ++ rest)
  is : r ≡ reply_head_of place (at + length interims + length text) head

abbrev head_turn : List ℕ → ℕ → ControlFlow (Result ReplyHead ℕ) ℕ
head_turn bytes at = head_step (reply_head_at bytes at)

-- an interim head before others
interim_taken : (bytes : List ℕ) (at : ℕ) (h r : ReplyHead) → reply_head_at bytes at ≡ Ok h → h.status / 100 ≡ 1 → IsLastTaken bytes h.end r
    → IsLastTaken bytes at r
interim_taken bytes at h r found interim later =
    let x = head_is_taken bytes at h found in
    let end : h.end ≡ at + length x.text = ap (λ (h : ReplyHead). h.end) x.is in
    let status : status_code x.head ≡ h.status = sym (ap (λ (h : ReplyHead). h.status) x.is) in
    let rest : x.rest ≡ later.interims ++ (later.text ++ later.rest) =
    sym (drop_at x.text x.rest (length x.text) refl) ∙ sym (ap (drop (length x.text)) x.whole) ∙ drop-drop (length x.text) at bytes
    ∙ ap (λ k. drop k bytes) (sym end) ∙ later.whole in
    let place : h.end + length later.interims + length later.text ≡ at + length (x.text ++ later.interims) + length later.text =
    omega (arith, end, length-append x.text later.interims) in record {
      interims = x.text ++ later.interims;
      text = later.text;
      rest = later.rest;
      head = later.head;
      place = later.place;
      before = skipped x.head x.text later.interims x.spells (ap (λ s. s / 100) status ∙ interim) later.before refl;
      spells = later.spells;
      final = later.final;
      whole = x.whole ∙ ap (λ xs. x.text ++ xs) rest ∙ sym (append_assoc x.text later.interims (later.text ++ later.rest));
      is = later.is ∙ ap (λ k. reply_head_of later.place k later.head) place;
    }

final_taken : (bytes : List ℕ) (at : ℕ) (h : ReplyHead) → reply_head_at bytes at ≡ Ok h → (h.status / 100 ≡ 1 → ⊥) → IsLastTaken bytes at h
final_taken bytes at h found final =
    let x = head_is_taken bytes at h found in
    let status : status_code x.head ≡ h.status = sym (ap (λ (h : ReplyHead). h.status) x.is) in
    let place : at + length x.text ≡ at + 0 + length x.text = omega arith in record {
      interims = [];
      text = x.text;
      rest = x.rest;
      head = x.head;
      place = first_byte bytes at;
      before = none;
      spells = x.spells;
      final = λ e. final (ap (λ s. s / 100) (sym status) ∙ e);
      whole = x.whole;
      is = x.is ∙ ap (λ k. reply_head_of (first_byte bytes at) k x.head) place;
    }

last_is_taken : (fuel : ℕ) (bytes : List ℕ) (k at : ℕ) (r : ReplyHead) → run (head_turn bytes) (Err k) fuel at ≡ Ok r → IsLastTaken bytes at r
last_is_taken zero bytes k at r e = cc
last_is_taken (suc fuel) bytes k at r e = by_head (reply_head_at bytes at) refl e (λ to f. last_is_taken fuel bytes k to r f)
  where
    by_test : (h : ReplyHead) → reply_head_at bytes at ≡ Ok h → (t : Bool) → eqb (h.status / 100) 1 ≡ t
        → after_flow (run (head_turn bytes) (Err k) fuel) (cond {A = ControlFlow (Result ReplyHead ℕ) ℕ} t (Continue h.end) (Break (Ok h))) ≡ Ok r
        → ((to : ℕ) → run (head_turn bytes) (Err k) fuel to ≡ Ok r → IsLastTaken bytes to r) → IsLastTaken bytes at r
    by_test h found true t e again = interim_taken bytes at h r found (eqb-true _ _ t) (again h.end e)
    by_test h found false t e again =
        let same : h ≡ r = cc in
        subst (λ (h : ReplyHead). IsLastTaken bytes at h) same (final_taken bytes at h found (eqb-false (h.status / 100) 1 t))

    by_head : (o : Result ReplyHead ℕ) → reply_head_at bytes at ≡ o → after_flow (run (head_turn bytes) (Err k) fuel) (head_step o) ≡ Ok r
        → ((to : ℕ) → run (head_turn bytes) (Err k) fuel to ≡ Ok r → IsLastTaken bytes to r) → IsLastTaken bytes at r
    by_head (Err place) found e again = cc
    by_head (Ok h) found e again = by_test h found (eqb (h.status / 100) 1) refl e again

-- ---- a chunk

record IsTrailerTaken (bytes : List ℕ) (at end : ℕ) : Type 0 where
  text : List ℕ
  rest : List ℕ
  whole : drop at bytes ≡ text ++ rest
  ends : first_empty_line Fresh text ≡ Some (length text)
  short : length text ≤ max_trailer
  place : end ≡ at + length text

trailer_is_taken : (bytes : List ℕ) (at end : ℕ) → trailer_end bytes at ≡ Ok end → IsTrailerTaken bytes at end
unfolding trailer_end
trailer_is_taken bytes at end e = by_line (first_empty_line Fresh (take max_trailer (drop at bytes))) refl e
  where
    by_test : (t : Bool) (a b : ℕ) → cond {A = Result ℕ ℕ} t (Err a) (Err b) ≡ Ok end → ⊥
    by_test true a b e = cc
    by_test false a b e = cc

    by_line : (o : Option ℕ) → first_empty_line Fresh (take max_trailer (drop at bytes)) ≡ o → trailer_ending bytes at o ≡ Ok end → IsTrailerTaken bytes at end
    by_line None found e = absurd (by_test (nat_lt (length (drop at bytes)) max_trailer) (length bytes) at e)
    by_line (Some n) found e =
        let window = end_of_window Fresh max_trailer n (drop at bytes) found in
        let low = window.0.low in
        let count = window.0.count in
        let same : at + n ≡ end = cc in record {
          text = take n (drop at bytes);
          rest = drop n (drop at bytes);
          whole = sym (take-append-drop n (drop at bytes));
          ends = window.1;
          short = omega (arith, count, low);
          place = omega (arith, count, same);
        }

record IsDataTaken (bytes : List ℕ) (line size : ℕ) (c : Chunk) : Type 0 where
  content : List ℕ
  rest : List ℕ
  whole : drop line bytes ≡ content ++ (13 ∷ 10 ∷ rest)
  count : length content ≡ size
  is : c ≡ record { line = line; size = size; end = line + size + 2 }

data_is_taken : (bytes : List ℕ) (at line size : ℕ) (c : Chunk) → data_chunk bytes at line size ≡ Ok c → IsDataTaken bytes line size c
unfolding data_chunk
data_is_taken bytes at line size c e = by_size (nat_lt (length (drop line bytes)) size) refl e
  where
    by_end : size ≤ length (drop line bytes) → (t : Bool) → has_line_end (drop (line + size) bytes) ≡ t
        → cond {A = Result Chunk ℕ} t (Ok (record { line = line; size = size; end = line + size + 2 })) (Err at) ≡ Ok c → IsDataTaken bytes line size c
    by_end enough false t e = cc
    by_end enough true t e =
        let data_bytes = drop line bytes in
        let two : take 2 (drop (line + size) bytes) ≡ 13 ∷ 10 ∷ [] = (bytes_eq-Decides (take 2 (drop (line + size) bytes)) (13 ∷ 10 ∷ [])).0 t in
        let after : drop size data_bytes ≡ 13 ∷ 10 ∷ drop 2 (drop (line + size) bytes) =
        drop-drop size line bytes ∙ sym (take-append-drop 2 (drop (line + size) bytes)) ∙ ap (λ xs. xs ++ drop 2 (drop (line + size) bytes)) two in
        let made : Chunk = record { line = line; size = size; end = line + size + 2 } in
        let same : made ≡ c = cc in record {
          content = take size data_bytes;
          rest = drop 2 (drop (line + size) bytes);
          whole = sym (take-append-drop size data_bytes) ∙ ap (λ xs. take size data_bytes ++ xs) after;
          count = omega (arith, enough, length-take size data_bytes);
          is = sym same;
        }

    by_two : size ≤ length (drop line bytes) → (t : Bool)
        → cond {A = Result Chunk ℕ} t (Err (length bytes)) (cond (has_line_end (drop (line + size) bytes)) (Ok (record { line = line; size = size; end = line + size + 2 })) (Err at)) ≡ Ok c
        → IsDataTaken bytes line size c
    by_two enough true e = cc
    by_two enough false e = by_end enough (has_line_end (drop (line + size) bytes)) refl e

    by_size : (t : Bool) → nat_lt (length (drop line bytes)) size ≡ t
        → cond {A = Result Chunk ℕ} t (Err (length bytes)) (cond (nat_lt (length (drop (line + size) bytes)) 2) (Err (length bytes))
        (cond (has_line_end (drop (line + size) bytes)) (Ok (record { line = line; size = size; end = line + size + 2 })) (Err at))) ≡ Ok c → IsDataTaken bytes line size c
    by_size true t e = cc
    by_size false t e = by_two (ltb-false _ _ t) (nat_lt (length (drop (line + size) bytes)) 2) e

-- a chunk's line, and what stands after it
record IsLineTaken (bytes : List ℕ) (at : ℕ) (c : Chunk) (size : ℕ) : Type 0 where
  line : List ℕ
  rest : List ℕ
  is : IsLine line
  short : length line ≤ max_chunk_line
  sized : size_of line ≡ Some size
  whole : drop at bytes ≡ line ++ rest
  after : drop (at + length line) bytes ≡ rest
  next : cond (eqb size 0) (last_chunk (at + length line) (trailer_end bytes (at + length line))) (data_chunk bytes at (at + length line) size) ≡ Ok c

line_is_taken : (bytes : List ℕ) (at : ℕ) (c : Chunk) → chunk_at bytes at ≡ Ok c → (size : ℕ) × IsLineTaken bytes at c size
unfolding chunk_at
line_is_taken bytes at c e = by_line (first_line (take max_chunk_line (drop at bytes))) refl e
  where
    by_test : (t : Bool) (a b : ℕ) → cond {A = Result Chunk ℕ} t (Err a) (Err b) ≡ Ok c → ⊥
    by_test true a b e = cc
    by_test false a b e = cc

    by_size : (n : ℕ) → first_line (take max_chunk_line (drop at bytes)) ≡ Some n → (o : Option ℕ) → size_of (take n (drop at bytes)) ≡ o
        → sized_chunk bytes at (at + n) o ≡ Ok c → (size : ℕ) × IsLineTaken bytes at c size
    by_size n found None sized e = cc
    by_size n found (Some size) sized e =
        let window = line_of_window max_chunk_line n (drop at bytes) found in
        let low = window.0.low in
        let count = window.0.count in
        let back = sym count in (
          size,
          record {
            line = take n (drop at bytes);
            rest = drop n (drop at bytes);
            is = window.1;
            short = omega (arith, count, low);
            sized = sized;
            whole = sym (take-append-drop n (drop at bytes));
            after = ap (λ k. drop (at + k) bytes) count ∙ sym (drop-drop n at bytes);
            next = subst (λ (k : ℕ). cond (eqb size 0) (last_chunk (at + k) (trailer_end bytes (at + k))) (data_chunk bytes at (at + k) size) ≡ Ok c) back e;
          },
        )

    by_line : (o : Option ℕ) → first_line (take max_chunk_line (drop at bytes)) ≡ o → chunk_ending bytes at o ≡ Ok c → (size : ℕ) × IsLineTaken bytes at c size
    by_line None found e = absurd (by_test (nat_lt (length (drop at bytes)) max_chunk_line) (length bytes) at e)
    by_line (Some n) found e = by_size n found (size_of (take n (drop at bytes))) refl e

-- ---- chunks, one after another

-- the chunks from the place on are spelled by the bytes there
record IsChunksTaken (bytes so_far : List ℕ) (at : ℕ) (body : List ℕ) (end : ℕ) : Type 0 where
  text : List ℕ
  rest : List ℕ
  later : List ℕ
  whole : drop at bytes ≡ text ++ rest
  is : body ≡ so_far ++ later
  chunks : ReplyChunks later text
  place : end ≡ at + length text

abbrev State : Type 0
State = List ℕ × ℕ

abbrev chunk_turn : List ℕ → State → ControlFlow (Result State ℕ) State
chunk_turn bytes s = chunk_step bytes s.0 (chunk_at bytes s.1)

-- the chunk of size 0
last_taken : (bytes so_far : List ℕ) (at : ℕ) (c : Chunk) → chunk_at bytes at ≡ Ok c → c.size ≡ 0 → IsChunksTaken bytes so_far at so_far c.end
last_taken bytes so_far at c found zero_size = by_size x.0 x.1
  where
    x : (size : ℕ) × IsLineTaken bytes at c size
    x = line_is_taken bytes at c found

    by_trailer : (size : ℕ) → (l : IsLineTaken bytes at c size) → size ≡ 0 → (r : Result ℕ ℕ) → trailer_end bytes (at + length l.line) ≡ r
        → last_chunk (at + length l.line) r ≡ Ok c → IsChunksTaken bytes so_far at so_far c.end
    by_trailer size l zero_is (Err place) f e = cc
    by_trailer size l zero_is (Ok end) f e =
        let t = trailer_is_taken bytes (at + length l.line) end f in
        let made : Chunk = record { line = at + length l.line; size = 0; end = end } in
        let same : made ≡ c = cc in
        let end_is : end ≡ c.end = ap (λ (c : Chunk). c.end) same in
        let place = t.place in record {
          text = l.line ++ t.text;
          rest = t.rest;
          later = [];
          whole = l.whole ∙ ap (λ xs. l.line ++ xs) (sym l.after ∙ t.whole) ∙ sym (append_assoc l.line t.text t.rest);
          is = sym (append-nil so_far);
          chunks = last l.line t.text l.is l.short (l.sized ∙ ap Some zero_is) t.ends t.short refl;
          place = omega (arith, end_is, place, length-append l.line t.text);
        }

    by_test : (size : ℕ) → (l : IsLineTaken bytes at c size) → (t : Bool) → eqb size 0 ≡ t
        → cond t (last_chunk (at + length l.line) (trailer_end bytes (at + length l.line))) (data_chunk bytes at (at + length l.line) size) ≡ Ok c
        → IsChunksTaken bytes so_far at so_far c.end
    by_test size l true t e = by_trailer size l (eqb-true size 0 t) (trailer_end bytes (at + length l.line)) refl e
    by_test size l false t e =
        let is = data_is_taken bytes at (at + length l.line) size c e in
        let size_is : c.size ≡ size = ap (λ (c : Chunk). c.size) is.is in
        absurd (eqb-false size 0 t (sym size_is ∙ zero_size))

    by_size : (size : ℕ) → IsLineTaken bytes at c size → IsChunksTaken bytes so_far at so_far c.end
    by_size size l = by_test size l (eqb size 0) refl l.next

-- a chunk before others
next_taken : (bytes so_far : List ℕ) (at : ℕ) (c : Chunk) (body : List ℕ) (end : ℕ) → chunk_at bytes at ≡ Ok c → (c.size ≡ 0 → ⊥)
    → IsChunksTaken bytes (so_far ++ take c.size (drop c.line bytes)) c.end body end → IsChunksTaken bytes so_far at body end
next_taken bytes so_far at c body end found some later = by_size x.0 x.1
  where
    x : (size : ℕ) × IsLineTaken bytes at c size
    x = line_is_taken bytes at c found

    by_trailer : (line : ℕ) (r : Result ℕ ℕ) → last_chunk line r ≡ Ok c → c.size ≡ 0
    by_trailer line (Err place) e = cc
    by_trailer line (Ok end) e =
        let made : Chunk = record { line = line; size = 0; end = end } in
        let same : made ≡ c = cc in sym (ap (λ (c : Chunk). c.size) same)

    by_data : (size : ℕ) (l : IsLineTaken bytes at c size) → IsDataTaken bytes (at + length l.line) size c → IsChunksTaken bytes so_far at body end
    by_data size l d =
        let n = length l.line in
        let content = d.content in
        let count = d.count in
        let size_is : c.size ≡ size = ap (λ (c : Chunk). c.size) d.is in
        let line_is : c.line ≡ at + n = ap (λ (c : Chunk). c.line) d.is in
        let end_is : c.end ≡ at + n + size + 2 = ap (λ (c : Chunk). c.end) d.is in
        let taken : take c.size (drop c.line bytes) ≡ content =
        (λ i. take (size_is i) (drop (line_is i) bytes)) ∙ ap (take size) d.whole ∙ take_at content (13 ∷ 10 ∷ d.rest) size count in
        let past : drop c.end bytes ≡ d.rest =
        ap (λ k. drop k bytes) end_is ∙ sym (drop-drop 2 (at + n + size) bytes) ∙ ap (drop 2) (sym (drop-drop size (at + n) bytes) ∙ ap (drop size) d.whole ∙ drop_at content (13 ∷ 10 ∷ d.rest) size count) in
        let rest : d.rest ≡ later.text ++ later.rest = sym past ∙ later.whole in
        let place = later.place in
        let whole_after : l.rest ≡ (content ++ (13 ∷ 10 ∷ later.text)) ++ later.rest =
        sym l.after ∙ d.whole ∙ ap (λ xs. content ++ (13 ∷ 10 ∷ xs)) rest ∙ sym (append_assoc content (13 ∷ 10 ∷ later.text) later.rest) in
        let size_some : 0 < length content = positive (length content) (λ none_is. some (size_is ∙ sym count ∙ none_is)) in record {
          text = l.line ++ (content ++ (13 ∷ 10 ∷ later.text));
          rest = later.rest;
          later = content ++ later.later;
          whole = l.whole ∙ ap (λ xs. l.line ++ xs) whole_after ∙ sym (append_assoc l.line (content ++ (13 ∷ 10 ∷ later.text)) later.rest);
          is = later.is ∙ ap (λ xs. (so_far ++ xs) ++ later.later) taken ∙ append_assoc so_far content later.later;
          chunks = chunk l.line content later.later later.text l.is l.short (l.sized ∙ ap Some (sym count)) size_some later.chunks refl refl;
          place = omega (arith, place, end_is, count, length-append l.line (content ++ (13 ∷ 10 ∷ later.text)), length-append content (13 ∷ 10 ∷ later.text));
        }
      where
        positive : (n : ℕ) → (n ≡ 0 → ⊥) → 0 < n
        positive zero some = absurd (some refl)
        positive (suc n) some = omega arith

    by_test : (size : ℕ) (l : IsLineTaken bytes at c size) → (t : Bool) → eqb size 0 ≡ t
        → cond t (last_chunk (at + length l.line) (trailer_end bytes (at + length l.line))) (data_chunk bytes at (at + length l.line) size) ≡ Ok c
        → IsChunksTaken bytes so_far at body end
    by_test size l true t e = absurd (some (by_trailer (at + length l.line) (trailer_end bytes (at + length l.line)) e))
    by_test size l false t e = by_data size l (data_is_taken bytes at (at + length l.line) size c e)

    by_size : (size : ℕ) → IsLineTaken bytes at c size → IsChunksTaken bytes so_far at body end
    by_size size l = by_test size l (eqb size 0) refl l.next

chunks_are_taken : (fuel : ℕ) (bytes : List ℕ) (k : ℕ) (so_far : List ℕ) (at : ℕ) (body : List ℕ) (end : ℕ)
    → run (chunk_turn bytes) (Err k) fuel (so_far, at) ≡ Ok (body, end) → IsChunksTaken bytes so_far at body end
chunks_are_taken zero bytes k so_far at body end e = cc
chunks_are_taken (suc fuel) bytes k so_far at body end e =
    by_chunk (chunk_at bytes at) refl e (λ more to f. chunks_are_taken fuel bytes k more to body end f)
  where
    by_test : (c : Chunk) → chunk_at bytes at ≡ Ok c → (t : Bool) → eqb c.size 0 ≡ t
        → after_flow (run (chunk_turn bytes) (Err k) fuel) (cond {A = ControlFlow (Result State ℕ) State} t (Break (Ok (so_far, c.end))) (Continue (so_far ++ take c.size (drop c.line bytes), c.end))) ≡ Ok (body, end)
        → ((more : List ℕ) (to : ℕ) → run (chunk_turn bytes) (Err k) fuel (more, to) ≡ Ok (body, end) → IsChunksTaken bytes more to body end)
        → IsChunksTaken bytes so_far at body end
    by_test c found true t e again =
        let p : ◌≡◌ {A = State} (so_far, c.end) (body, end) = cc in
        subst (λ (s : State). IsChunksTaken bytes so_far at s.0 s.1) p (last_taken bytes so_far at c found (eqb-true c.size 0 t))
    by_test c found false t e again =
        next_taken bytes so_far at c body end found (eqb-false c.size 0 t) (again (so_far ++ take c.size (drop c.line bytes)) c.end e)

    by_chunk : (r : Result Chunk ℕ) → chunk_at bytes at ≡ r → after_flow (run (chunk_turn bytes) (Err k) fuel) (chunk_step bytes so_far r) ≡ Ok (body, end)
        → ((more : List ℕ) (to : ℕ) → run (chunk_turn bytes) (Err k) fuel (more, to) ≡ Ok (body, end) → IsChunksTaken bytes more to body end)
        → IsChunksTaken bytes so_far at body end
    by_chunk (Err place) found e again = cc
    by_chunk (Ok c) found e again = by_test c found (eqb c.size 0) refl e again

-- ---- the whole reply

body_is_taken : (framing : Framing) (bytes : List ℕ) (at : ℕ) (body : List ℕ) (end : ℕ) → reply_body bytes at framing ≡ Ok (body, end)
    → length bytes ≤ end → at ≤ length bytes → SpellsReplyBody framing body (drop at bytes)
unfolding chunks_from
body_is_taken framed.Unstated bytes at body end e ended inside =
    let p : ◌≡◌ {A = State} (drop at bytes, length bytes) (body, end) = cc in λ i. (p i).0
body_is_taken (framed.Length n) bytes at body end e ended inside = by_test (nat_lt (length (drop at bytes)) n) refl e
  where
    by_test : (t : Bool) → nat_lt (length (drop at bytes)) n ≡ t → cond {A = Result State ℕ} t (Err (length bytes)) (Ok (take n (drop at bytes), at + n)) ≡ Ok (body, end)
        → SpellsReplyBody (framed.Length n) body (drop at bytes)
    by_test true t e = cc
    by_test false t e =
        let p : ◌≡◌ {A = State} (take n (drop at bytes), at + n) (body, end) = cc in
        let place : at + n ≡ end = λ i. (p i).1 in
        let enough = ltb-false _ _ t in
        let count : length (drop at bytes) ≡ n = omega (arith, enough, ended, inside, place, length-drop at bytes) in
        let all : drop at bytes ≡ body = sym (take_all n (drop at bytes) (omega (arith, count))) ∙ (λ i. (p i).0) in
        (sym (ap length all) ∙ count, all)
body_is_taken framed.Chunked bytes at body end e ended inside =
    let c = chunks_are_taken (suc (length bytes)) bytes (length bytes) [] at body end e in
    let place = c.place in
    let whole = c.whole in
    let nothing : length c.rest ≡ 0 = omega (arith, place, ended, inside, ap length whole, length-append c.text c.rest, length-drop at bytes) in
    let text : c.text ≡ drop at bytes = sym (append-nil c.text) ∙ ap (λ xs. c.text ++ xs) (sym (nil_from_length c.rest nothing)) ∙ sym whole in
    let chunks = subst (λ (xs : List ℕ). ReplyChunks xs c.text) (sym c.is) c.chunks in
    subst (λ (xs : List ℕ). ReplyChunks body xs) text chunks

pub reply_is_spelled : (bodiless : Bool) (m : ReplyMessage) (bytes : List ℕ) → reply_of bodiless bytes ≡ Ok m → SpellsReply bodiless m bytes
unfolding reply_of last_head
reply_is_spelled bodiless m bytes e = by_head (last_head bytes 0) refl e
  where
    by_test : (l : (h : ReplyHead) × IsLastTaken bytes 0 h) (framing : Framing) → stated (fields_of l.1.head.fields) ≡ Ok framing
        → (body : List ℕ) (end : ℕ)
        → reply_body bytes (0 + length l.1.interims + length l.1.text) (reply_framing (has_no_body bodiless (status_code l.1.head)) framing) ≡ Ok (body, end)
        → (t : Bool) → nat_lt end (length bytes) ≡ t
        → cond {A = Result ReplyMessage ℕ} t (Err end) (Ok (record { status = status_code l.1.head; fields = fields_of l.1.head.fields; body = body })) ≡ Ok m
        → SpellsReply bodiless m bytes
    by_test l framing f body end g true t e = cc
    by_test l framing f body end g false t e =
        let x = l.1 in
        let made : ReplyMessage = record { status = status_code x.head; fields = fields_of x.head.fields; body = body } in
        let same : made ≡ m = cc in
        let body_is : body ≡ m.body = ap (λ (m : ReplyMessage). m.body) same in
        let at = 0 + length x.interims + length x.text in
        let front : at ≡ length (x.interims ++ x.text) = omega (arith, length-append x.interims x.text) in
        let all : bytes ≡ (x.interims ++ x.text) ++ x.rest = x.whole ∙ sym (append_assoc x.interims x.text x.rest) in
        let rest : drop at bytes ≡ x.rest = (λ i. drop (front i) (all i)) ∙ drop_at (x.interims ++ x.text) x.rest (length (x.interims ++ x.text)) refl in
        let inside : at ≤ length bytes = omega (arith, front, ap length all, length-append (x.interims ++ x.text) x.rest) in
        let ended = ltb-false end (length bytes) t in
        let F = reply_framing (has_no_body bodiless (status_code x.head)) framing in
        let spells = body_is_taken F bytes at body end g ended inside in
        let moved = subst (λ (xs : List ℕ). SpellsReplyBody F xs (drop at bytes)) body_is spells in record {
          interims = x.interims;
          text = x.text;
          tail = x.rest;
          head = x.head;
          framing = framing;
          before = x.before;
          spells = x.spells;
          final = x.final;
          states = f;
          body = subst (λ (xs : List ℕ). SpellsReplyBody F m.body xs) rest moved;
          whole = x.whole;
          same = sym same ∙ ap (λ xs. record { status = status_code x.head; fields = fields_of x.head.fields; body = xs }) body_is;
        }

    by_body : (l : (h : ReplyHead) × IsLastTaken bytes 0 h) (framing : Framing) → stated (fields_of l.1.head.fields) ≡ Ok framing
        → (b : Result State ℕ) → reply_body bytes (0 + length l.1.interims + length l.1.text) (reply_framing (has_no_body bodiless (status_code l.1.head)) framing) ≡ b
        → ended_reply bytes (reply_head_of l.1.place (0 + length l.1.interims + length l.1.text) l.1.head) b ≡ Ok m → SpellsReply bodiless m bytes
    by_body l framing f (Err place) g e = cc
    by_body l framing f (Ok (body, end)) g e = by_test l framing f body end g (nat_lt end (length bytes)) refl e

    by_stated : (l : (h : ReplyHead) × IsLastTaken bytes 0 h) → (r : Result Framing WireWhy) → stated (fields_of l.1.head.fields) ≡ r
        → framed_reply bodiless bytes (reply_head_of l.1.place (0 + length l.1.interims + length l.1.text) l.1.head) r ≡ Ok m → SpellsReply bodiless m bytes
    by_stated l (Err why) f e = cc
    by_stated l (Ok framing) f e = by_body l framing f _ refl e

    by_head : (r : Result ReplyHead ℕ) → last_head bytes 0 ≡ r → headed_reply bodiless bytes r ≡ Ok m → SpellsReply bodiless m bytes
    by_head (Err place) found e = cc
    by_head (Ok h) found e =
        let x = last_is_taken (suc (length bytes)) bytes (length bytes) 0 h found in
        let moved = subst (λ (h : ReplyHead). headed_reply bodiless bytes (Ok h) ≡ Ok m) x.is e in
        by_stated (h, x) (stated (fields_of x.head.fields)) refl moved
