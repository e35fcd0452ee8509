-- What is known of a request before it is whole.
use Rattle.std.proofs.Common.{◌≡◌, ◌≢◌, ℕ, zero, suc, ◌+◌, ◌-◌, ◌*◌, ◌<◌, ◌≤◌, ◌⊎◌, inl, inr, Bool, true, false, not, ◌&&◌, cond, List, [], ◌++◌, length, take, drop, Option, Some, None, Result, Ok, Err, refl, sym, ap, ◌∙◌, subst, arith}
use Rattle.std.specs.Prelude.{nat_lt, ◌==◌}
use Rattle.std.specs.List.{list_all, list_any}
use Rattle.std.proofs.lemmas.List.{length-append, length-drop, length-take}
use Rattle.std.proofs.lemmas.Bool.{cond-false, ltb-true, ltb-false}
use Rattle.std.proofs.lemmas.Bool.Decides.{nat_tests}
use Rattle.rs_request.specs.declared.field.Field.{Field}
use Rattle.rs_request.specs.declared.fault.WireFault.{WireFault}
use Rattle.rs_request.specs.declared.fault.WireWhy.{WireWhy}
use Rattle.rs_request.specs.declared.fault.WireWhy.TheVariants.{Truncated, BadHead, HeadLong, TargetLong, BodyLong, BadChunk, Coding}
use Rattle.rs_request.specs.declared.framing.Framing.{Framing}
use Rattle.rs_request.specs.declared.framing.Framing.TheVariants as framed
use Rattle.rs_request.specs.declared.head.Begun.{Begun}
use Rattle.rs_request.specs.declared.message.RequestMessage.{RequestMessage}
use Rattle.rs_request.specs.declared.body.Part.{Part}
use Rattle.rs_request.specs.declared.body.Part.TheVariants.{Length, Line, Data, Trailer}
use Rattle.rs_path.specs.Limits.{max_body}
use Rattle.rs_request.specs.Limits.{max_head, max_fields, max_target, max_chunk_line, max_trailer, max_message}
use Rattle.rs_request.specs.declared.search.Spot.TheVariants.{Before, Fresh}
use Rattle.rs_request.specs.Lines.{is_break, first_line, first_empty_line}
use Rattle.rs_request.specs.ChunkTexts.{size_of}
use Rattle.rs_request.specs.Framing.{is_coding, stated, framed as limited, request_framing, has_its_host, head_framing}
use Rattle.rs_request.specs.RequestHeads.{fields_of, begun_at, begun_by, judged_head, long_head, head_ending, head_at}
use Rattle.httparse.specs.Grammar.{RequestHead}
use Rattle.rs_request.specs.Bodies.{Body, unended, ended, spoiled, Turn, waits, goes, ends, fails, fault_at, part_after, next_part, size_turn, line_turn, trailer_turn, has_line_end, turn, first_part, body_from}
use Rattle.rs_request.specs.Readings.{finish_by, finish_of, Reading, unread, refused, begun, reading_by, request_reading, Fed, more, interim, with_body, body_answer, reading_answer, answer_by, next_of}
use Rattle.rs_request.specs.Division.{message_by, message_at}
use Rattle.rs_request.specs.Laws.{fed_at}
use Rattle.rs_request.proofs.LinesLemmas.{empty_line_is_found, first_line_is_first}
use Rattle.rs_request.proofs.HeadLemmas.{head_stays, head_has_text}
use Rattle.rs_request.proofs.BodyLemmas.{body_goes, body_ends, body_fails, body_waits, body_step}
use Rattle.rs_request.proofs.AnswerLemmas.{head_is_read}

-- ---- the room of a body

-- the part may stand behind so many bytes of the body
abbrev IsLow : Part → ℕ → Type 0
IsLow (Length n) so_far = so_far + n ≤ max_body
IsLow (Line sought) so_far = so_far ≤ max_body
IsLow (Data n) so_far = (0 < n) × (so_far + n ≤ max_body)
IsLow (Trailer search) so_far = so_far ≤ max_body

-- the bytes of a chunked body that may follow so many of the body: the longest line and a line end for each
abbrev lines_room : ℕ → ℕ
lines_room so_far = (max_body - so_far) * 259 + (max_chunk_line + max_trailer)

-- the bytes that may follow while the body isn't whole, fewer than these
abbrev room : Part → ℕ → ℕ
room (Length n) so_far = n
room (Line sought) so_far = lines_room so_far
room (Data n) so_far = n + 2 + lines_room (so_far + n)
room (Trailer search) so_far = max_trailer

-- what a turn leaves of the room
abbrev IsFit : Part → ℕ → List ℕ → Turn → Type 0
IsFit part so_far rest waits = length rest < room part so_far
IsFit part so_far rest (goes next body n) = IsLow next (length body) × (n + room next (length body) ≤ room part so_far)
IsFit part so_far rest (ends body n) = length body ≤ max_body
IsFit part so_far rest (fails fault) = Unit {0}

by_two : (part : Part) (so_far : ℕ) (rest : List ℕ) (s t : Turn) (b : Bool) → (b ≡ true → IsFit part so_far rest s) → (b ≡ false → IsFit part so_far rest t)
    → IsFit part so_far rest (cond b s t)
by_two part so_far rest s t true one other = one refl
by_two part so_far rest s t false one other = other refl

-- the part after a line of n bytes
size_fits : (sought : ℕ) (body : List ℕ) (at n : ℕ) (rest : List ℕ) → n ≤ max_chunk_line → length body ≤ max_body → (o : Option ℕ)
    → IsFit (Line sought) (length body) rest (size_turn body at n (next_part (length body) o))
size_fits sought body at n rest short low None = tt
size_fits sought body at n rest short low (Some size) = by_sum (nat_lt max_body (length body + size)) refl
  where
    after : (b : Bool) → (size == 0) ≡ b → length body + size ≤ max_body
        → IsFit (Line sought) (length body) rest (size_turn body at n (Ok (cond b (Trailer (record { sought = 0; spot = Fresh })) (Data size))))
    after true e small = (low, omega (arith, short, low))
    after false e small =
        let some : 0 < size = grind (arith, nat_tests) in
        ((some, small), omega (arith, short, small, some))

    by_sum : (b : Bool) → nat_lt max_body (length body + size) ≡ b
        → IsFit (Line sought) (length body) rest (size_turn body at n (cond b (Err BodyLong) (Ok (part_after size))))
    by_sum true e = tt
    by_sum false e = after (size == 0) refl (ltb-false _ _ e)

turn_fits : (part : Part) (body : List ℕ) (at : ℕ) (rest : List ℕ) → IsLow part (length body) → IsFit part (length body) rest (turn part body at rest)
turn_fits (Length n) body at rest low =
    by_two (Length n) (length body) rest waits (ends (body ++ take n rest) n) (nat_lt (length rest) n) (λ e. ltb-true _ _ e)
    (λ e. omega (arith, low, length-append body (take n rest), length-take n rest))
turn_fits (Line sought) body at rest low = by_line (first_line (take max_chunk_line rest)) refl
  where
    by_line : (o : Option ℕ) → first_line (take max_chunk_line rest) ≡ o → IsFit (Line sought) (length body) rest (line_turn body at rest o)
    by_line None e =
        by_two (Line sought) (length body) rest waits (fails (fault_at BadChunk at)) (nat_lt (length rest) max_chunk_line)
        (λ e. let short : length rest < max_chunk_line = ltb-true _ _ e in omega (arith, short)) (λ e. tt)
    by_line (Some n) e =
        let within : n ≤ length (take max_chunk_line rest) = (first_line_is_first (take max_chunk_line rest) n e).within in
        size_fits sought body at n rest (omega (arith, within, length-take max_chunk_line rest)) low (size_of (take n rest))
turn_fits (Data n) body at rest low =
    by_two (Data n) (length body) rest waits _ (nat_lt (length rest) (n + 2))
    (λ e. let short : length rest < n + 2 = ltb-true _ _ e in omega (arith, short))
    (λ e.
    let enough : n + 2 ≤ length rest = ltb-false _ _ e in
    let some : length (body ++ take n rest) ≡ length body + n = omega (arith, enough, length-append body (take n rest), length-take n rest) in
    by_two (Data n) (length body) rest (goes (Line 0) (body ++ take n rest) (n + 2)) (fails (fault_at BadChunk (at + n))) (has_line_end (drop n rest))
    (λ t. (omega (arith, low.1, some), omega (arith, some))) (λ t. tt))
turn_fits (Trailer search) body at rest low = by_line (first_empty_line Fresh (take max_trailer rest))
  where
    by_line : (o : Option ℕ) → IsFit (Trailer search) (length body) rest (trailer_turn body at rest o)
    by_line None =
        by_two (Trailer search) (length body) rest waits (fails (fault_at BadChunk at)) (nat_lt (length rest) max_trailer) (λ e. ltb-true _ _ e) (λ e. tt)
    by_line (Some n) = low

-- what comes of a body within its room: fewer bytes than that, or a body within its limit
abbrev IsWithin : ℕ → List ℕ → Body → Type 0
IsWithin most rest unended = length rest < most
IsWithin most rest (ended body end) = length body ≤ max_body
IsWithin most rest (spoiled fault) = Unit {0}

further : (n most least : ℕ) (rest : List ℕ) (b : Body) → n ≤ length rest → n + least ≤ most → IsWithin least (drop n rest) b → IsWithin most rest b
further n most least rest unended within low short = omega (arith, within, low, short, length-drop n rest)
further n most least rest (ended body end) within low short = short
further n most least rest (spoiled fault) within low short = tt

body_within : (fuel : ℕ) (part : Part) (body : List ℕ) (at : ℕ) (rest : List ℕ) → length rest < fuel → IsLow part (length body)
    → IsWithin (room part (length body)) rest (body_from part body at rest)
body_within zero part body at rest small low = absurd (omega arith)
body_within (suc fuel) part body at rest small low =
    by_turn (turn part body at rest) refl (turn_fits part body at rest low) (λ next later n less fit. body_within fuel next later (at + n) (drop n rest) less fit)
  where
    is : (b : Body) → body_from part body at rest ≡ b → IsWithin (room part (length body)) rest b → IsWithin (room part (length body)) rest (body_from part body at rest)
    is b e within = subst (IsWithin (room part (length body)) rest) (sym e) within

    by_turn : (t : Turn) → turn part body at rest ≡ t → IsFit part (length body) rest t
        → ((next : Part) (later : List ℕ) (n : ℕ) → length (drop n rest) < fuel → IsLow next (length later)
        → IsWithin (room next (length later)) (drop n rest) (body_from next later (at + n) (drop n rest)))
        → IsWithin (room part (length body)) rest (body_from part body at rest)
    by_turn waits t fit again = is unended (body_waits part body at rest t) fit
    by_turn (fails f) t fit again = is (spoiled f) (body_fails part body at rest f t) tt
    by_turn (ends later n) t fit again = is (ended later (at + n)) (body_ends part body later at n rest t).1 fit
    by_turn (goes next later n) t fit again =
        let step = body_goes part next body later at n rest t in
        is (body_from next later (at + n) (drop n rest)) (body_step part body at rest (goes next later n) t)
        (further n (room part (length body)) (room next (length later)) rest (body_from next later (at + n) (drop n rest)) step.1 fit.1
        (again next later n (omega (arith, step.0, step.1, small, length-drop n rest)) fit.0))

-- ---- the framing that a head states

limited_low : (r : Result Framing WireWhy) (framing : Framing) → limited r ≡ Ok framing → IsLow (first_part framing) 0
limited_low (Err why) framing e = cc
limited_low (Ok framed.Unstated) framing e =
    let same : framed.Length 0 ≡ framing = cc in subst (λ f. IsLow (first_part f) 0) same (omega arith)
limited_low (Ok framed.Chunked) framing e =
    let same : framed.Chunked ≡ framing = cc in subst (λ f. IsLow (first_part f) 0) same (omega arith)
limited_low (Ok (framed.Length n)) framing e = by_test (nat_lt max_body n) refl e
  where
    by_test : (b : Bool) → nat_lt max_body n ≡ b → cond b (Err BodyLong) (Ok (framed.Length n)) ≡ Ok framing → IsLow (first_part framing) 0
    by_test true t e = cc
    by_test false t e =
        let same : framed.Length n ≡ framing = cc in subst (λ f. IsLow (first_part f) 0) same (omega (arith, ltb-false max_body n t))

request_low : (minor : ℕ) (fields : List Field) (framing : Framing) → request_framing minor fields ≡ Ok framing → IsLow (first_part framing) 0
unfolding request_framing
request_low minor fields framing e = by_test ((minor == 0) && list_any is_coding fields) e
  where
    by_test : (b : Bool) → cond b (Err Coding) (limited (stated fields)) ≡ Ok framing → IsLow (first_part framing) 0
    by_test true e = cc
    by_test false e = limited_low (stated fields) framing e

head_low : (minor target : ℕ) (fields : List Field) (framing : Framing) → head_framing minor target fields ≡ Ok framing → IsLow (first_part framing) 0
unfolding head_framing
head_low minor target fields framing e = by_tests (not (has_its_host minor fields)) (nat_lt max_target target) e
  where
    by_tests : (b c : Bool) → cond b (Err BadHead) (cond c (Err TargetLong) (request_framing minor fields)) ≡ Ok framing → IsLow (first_part framing) 0
    by_tests true c e = cc
    by_tests false true e = cc
    by_tests false false e = request_low minor fields framing e

begun_low : (place : ℕ) (h : RequestHead) (b : Begun) → judged_head place h ≡ Ok b → IsLow (first_part b.framing) 0
unfolding judged_head
begun_low place h b e = by_test (nat_lt max_fields (length h.fields)) e
  where
    by_framing : (r : Result Framing WireWhy) → head_framing h.minor (length h.target) (fields_of h.fields) ≡ r
        → begun_by place h.method h.target h.minor (fields_of h.fields) r ≡ Ok b → IsLow (first_part b.framing) 0
    by_framing (Err why) f e = cc
    by_framing (Ok framing) f e =
        let same : begun_at place h.method h.target h.minor (fields_of h.fields) framing ≡ b = cc in
        subst (λ (c : Begun). IsLow (first_part c.framing) 0) same (head_low h.minor (length h.target) (fields_of h.fields) framing f)

    by_test : (t : Bool) → cond t (Err HeadLong) (begun_by place h.method h.target h.minor (fields_of h.fields) (head_framing h.minor (length h.target) (fields_of h.fields))) ≡ Ok b
        → IsLow (first_part b.framing) 0
    by_test true e = cc
    by_test false e = by_framing (head_framing h.minor (length h.target) (fields_of h.fields)) refl e

room_of : (framing : Framing) → IsLow (first_part framing) 0 → room (first_part framing) 0 + max_head ≤ max_message
room_of framed.Unstated low = omega arith
room_of (framed.Length n) low = omega (arith, low)
room_of framed.Chunked low = omega arith

-- ---- a request

abbrev HeadFound : Type 0
HeadFound = Option (Result (Begun × ℕ) WireWhy)

-- no head is as long as the limit while it isn't whole
unread_short : (place : ℕ) (bytes : List ℕ) → head_at place bytes ≡ None → length bytes < max_head
unfolding head_at
unread_short place bytes e = by_line (first_empty_line Before (take max_head bytes)) e
  where
    by_test : (t : Bool) (why : WireWhy) → nat_lt (length bytes) max_head ≡ t → ◌≡◌ {A = HeadFound} (cond t None (Some (Err why))) None → length bytes < max_head
    by_test true why t e = ltb-true _ _ t
    by_test false why t e = cc

    by_line : (o : Option ℕ) → head_ending place bytes o ≡ None → length bytes < max_head
    by_line None e = by_test (nat_lt (length bytes) max_head) (long_head (take max_head bytes)) refl e
    by_line (Some n) e = cc

-- what comes of bytes: fewer than the limit of a message, or a body within its own
abbrev IsShortReading : List ℕ → Reading → Type 0
IsShortReading bytes unread = length bytes < max_message
IsShortReading bytes (refused f) = Unit {0}
IsShortReading bytes (begun b body) = IsWithin max_message bytes body

reading_short : (place : ℕ) (bytes : List ℕ) → IsShortReading bytes (request_reading place bytes)
unfolding request_reading
reading_short place bytes = by_head (head_at place bytes) refl
  where
    by_head : (o : HeadFound) → head_at place bytes ≡ o → IsShortReading bytes (reading_by place bytes o)
    by_head None e = let short : length bytes < max_head = unread_short place bytes e in omega (arith, short)
    by_head (Some (Err why)) e = tt
    by_head (Some (Ok (b, n))) e =
        let head = head_is_read place bytes b n e in
        let low : IsLow (first_part b.framing) 0 = begun_low place head.head b head.judged in
        let within : n ≤ length (take max_head bytes) = (empty_line_is_found Before (take max_head bytes) n head.ends).within in
        further n max_message (room (first_part b.framing) 0) bytes (body_from (first_part b.framing) [] (place + n) (drop n bytes))
        (omega (arith, within, length-take max_head bytes)) (omega (arith, within, length-take max_head bytes, room_of b.framing low))
        (body_within (suc (length (drop n bytes))) (first_part b.framing) [] (place + n) (drop n bytes) (omega arith) low)

-- ---- the laws

pub unfinished_short : (fed : Fed) → next_of fed ≡ more → length fed.bytes < max_message
unfolding next_of
unfinished_short fed e = by_fault fed.fault (request_reading fed.place fed.bytes) (reading_short fed.place fed.bytes) e
  where
    by_body : (b : Begun) (x : Body) → IsWithin max_message fed.bytes x → body_answer b x ≡ more → length fed.bytes < max_message
    by_body b unended short e = short
    by_body b (ended body end) short e = cc
    by_body b (spoiled f) short e = cc

    by_test : (t : Bool) (b : Begun) (x : Body) → IsWithin max_message fed.bytes x → cond t interim (body_answer b x) ≡ more → length fed.bytes < max_message
    by_test true b x short e = cc
    by_test false b x short e = by_body b x short e

    by_fault : (o : Option WireFault) (r : Reading) → IsShortReading fed.bytes r → answer_by o fed.told r ≡ more → length fed.bytes < max_message
    by_fault (Some f) r short e = cc
    by_fault None unread short e = short
    by_fault None (refused f) short e = cc
    by_fault None (begun b x) short e = by_test (b.expects && not fed.told) b x short e

pub body_short : (place : ℕ) (bytes : List ℕ) (m : RequestMessage) (next : ℕ) → message_at place bytes ≡ Some (m, next) → length m.body ≤ max_body
unfolding message_at
body_short place bytes m next e = by_reading (request_reading place bytes) (reading_short place bytes) e
  where
    by_reading : (r : Reading) → IsShortReading bytes r → message_by r ≡ Some (m, next) → length m.body ≤ max_body
    by_reading unread short e = cc
    by_reading (refused f) short e = cc
    by_reading (begun b unended) short e = cc
    by_reading (begun b (spoiled f)) short e = cc
    by_reading (begun b (ended body end)) short e =
        let same : with_body b.message body ≡ m = (let p : ◌≡◌ {A = RequestMessage × ℕ} (with_body b.message body, end) (m, next) = cc in λ i. (p i).0) in
        subst (λ (k : RequestMessage). length k.body ≤ max_body) same short

-- what is said of the interim reply, where it wasn't given
pub interim_stays : (place : ℕ) (bytes after : List ℕ) → next_of (fed_at place bytes false) ≡ interim → next_of (fed_at place (bytes ++ after) false) ≡ interim
unfolding next_of request_reading
interim_stays place bytes after e = by_head (head_at place bytes) refl e
  where
    by_body : (b : Begun) (x : Body) → body_answer b x ≡ interim → ⊥
    by_body b unended e = cc
    by_body b (ended body end) e = cc
    by_body b (spoiled f) e = cc

    by_test : (t : Bool) (b : Begun) (x y : Body) → cond (t && true) interim (body_answer b x) ≡ interim → cond (t && true) interim (body_answer b y) ≡ interim
    by_test true b x y e = refl
    by_test false b x y e = absurd (by_body b x e)

    by_head : (o : HeadFound) → head_at place bytes ≡ o → reading_answer false (reading_by place bytes o) ≡ interim
        → reading_answer false (reading_by place (bytes ++ after) (head_at place (bytes ++ after))) ≡ interim
    by_head None f e = cc
    by_head (Some (Err why)) f e = cc
    by_head (Some (Ok (b, n))) f e =
        ap (λ o. reading_answer false (reading_by place (bytes ++ after) o)) (head_stays place bytes after (Ok (b, n)) f)
        ∙ by_test b.expects b (body_from (first_part b.framing) [] (place + n) (drop n bytes)) (body_from (first_part b.framing) [] (place + n) (drop n (bytes ++ after))) e

pub told_or_not : (place : ℕ) (bytes : List ℕ) → (next_of (fed_at place bytes false) ≡ interim) ⊎ (next_of (fed_at place bytes true) ≡ next_of (fed_at place bytes false))
unfolding next_of
told_or_not place bytes = by_reading (request_reading place bytes)
  where
    by_test : (t : Bool) (b : Begun) (x : Body)
        → (cond (t && true) interim (body_answer b x) ≡ interim) ⊎ (cond (t && false) interim (body_answer b x) ≡ cond (t && true) interim (body_answer b x))
    by_test true b x = inl refl
    by_test false b x = inr refl

    by_reading : (r : Reading) → (reading_answer false r ≡ interim) ⊎ (reading_answer true r ≡ reading_answer false r)
    by_reading unread = inr refl
    by_reading (refused f) = inr refl
    by_reading (begun b x) = by_test b.expects b x

pub told_once : (place : ℕ) (bytes : List ℕ) → next_of (fed_at place bytes true) ≢ interim
unfolding next_of
told_once place bytes = by_reading (request_reading place bytes)
  where
    by_body : (b : Begun) (x : Body) → body_answer b x ≡ interim → ⊥
    by_body b unended e = cc
    by_body b (ended body end) e = cc
    by_body b (spoiled f) e = cc

    by_test : (t : Bool) (b : Begun) (x : Body) → cond (t && false) interim (body_answer b x) ≡ interim → ⊥
    by_test true b x e = by_body b x e
    by_test false b x e = by_body b x e

    by_reading : (r : Reading) → reading_answer true r ≡ interim → ⊥
    by_reading unread e = cc
    by_reading (refused f) e = cc
    by_reading (begun b x) e = by_test b.expects b x e

pub begun_unended : (place : ℕ) (bytes : List ℕ) (told : Bool) → next_of (fed_at place bytes false) ≡ interim
    → finish_of (fed_at place bytes told) ≡ Err (fault_at Truncated (place + length bytes))
unfolding next_of request_reading finish_of
begun_unended place bytes told e = by_head (head_at place bytes) refl e
  where
    by_head : (o : HeadFound) → head_at place bytes ≡ o → reading_answer false (reading_by place bytes o) ≡ interim
        → finish_by None (place + length bytes) bytes ≡ Err (fault_at Truncated (place + length bytes))
    by_head None f e = cc
    by_head (Some (Err why)) f e = cc
    by_head (Some (Ok (b, n))) f e =
        cond-false (list_all is_break bytes) (Ok tt) (Err (fault_at Truncated (place + length bytes))) (head_has_text place bytes b n f)
