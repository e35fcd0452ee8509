-- A stream has one division into messages, and more bytes change none of them.
use Rattle.std.proofs.Common.{◌≡◌, ℕ, zero, suc, ◌+◌, ◌-◌, ◌<◌, ◌≤◌, Bool, true, false, not, ◌&&◌, cond, List, [], ◌∷◌, ◌++◌, length, take, drop, Option, Some, None, Result, Ok, Err, refl, sym, ap, ◌∙◌, subst, arith}
use Rattle.std.specs.Prelude.{nat_lt}
use Rattle.std.proofs.lemmas.List.{append-nil, length-drop, drop-append-le, drop-drop}
use Rattle.rs_request.specs.declared.fault.WireFault.{WireFault}
use Rattle.rs_request.specs.declared.fault.WireWhy.{WireWhy}
use Rattle.rs_request.specs.declared.body.Part.{Part}
use Rattle.rs_request.specs.declared.head.Begun.{Begun}
use Rattle.rs_request.specs.declared.message.RequestMessage.{RequestMessage}
use Rattle.rs_request.specs.declared.message.Step.TheVariants.{Message}
use Rattle.rs_request.specs.Limits.{max_head}
use Rattle.rs_request.specs.declared.search.Spot.TheVariants.{Before}
use Rattle.rs_request.specs.Lines.{first_empty_line, past_breaks}
use Rattle.rs_request.specs.RequestHeads.{long_head, with_length, judged_request, head_ending, head_at}
use Rattle.rs_request.specs.Bodies.{Body, unended, ended, spoiled, Turn, waits, goes, ends, fails, turn, first_part, body_from}
use Rattle.rs_request.specs.Readings.{Reading, unread, refused, begun, reading_by, request_reading, Fed, interim, with_body, body_answer, answer_by, next_of, step_of, fed_after}
use Rattle.rs_request.specs.Division.{message_by, message_at, Divides, fed_next}
use Rattle.rs_request.proofs.LinesLemmas.{empty_line_is_found, length-window}
use Rattle.rs_request.proofs.HeadLemmas.{head_stays}
use Rattle.rs_request.proofs.BodyLemmas.{IsSettled, turn_settled, body_goes, body_ends, body_fails, body_waits}

-- a body that is whole ends within the bytes, and stays whatever follows
pub record IsEnded (part : Part) (so_far : List ℕ) (at : ℕ) (rest body : List ℕ) (end : ℕ) : Type 0 where
  pub low : at ≤ end
  pub high : end ≤ at + length rest
  pub stays : (after : List ℕ) → body_from part so_far at (rest ++ after) ≡ ended body end

pub body_is_ended : (n : ℕ) (part : Part) (so_far : List ℕ) (at : ℕ) (rest body : List ℕ) (end : ℕ) → length rest < n
    → body_from part so_far at rest ≡ ended body end → IsEnded part so_far at rest body end
body_is_ended zero part so_far at rest body end small e = absurd (omega arith)
body_is_ended (suc n) part so_far at rest body end small e =
    by_turn (turn part so_far at rest) refl (λ next later k less. body_is_ended n next later (at + k) (drop k rest) body end less)
  where
    by_turn : (t : Turn) → turn part so_far at rest ≡ t
        → ((next : Part) (later : List ℕ) (k : ℕ) → length (drop k rest) < n → body_from next later (at + k) (drop k rest) ≡ ended body end
        → IsEnded next later (at + k) (drop k rest) body end)
        → IsEnded part so_far at rest body end
    by_turn waits t again = let none = sym (body_waits part so_far at rest t) ∙ e in cc
    by_turn (fails f) t again = let none = sym (body_fails part so_far at rest f t) ∙ e in cc
    by_turn (goes next later k) t again =
        let step = body_goes part next so_far later at k rest t in
        let some = step.0 in
        let within = step.1 in
        let here = ap (body_from next later (at + k)) (sym (append-nil (drop k rest))) ∙ sym (step.2 []) ∙ ap (body_from part so_far at) (append-nil rest) ∙ e in
        let rec = again next later k (omega (arith, length-drop k rest)) here in
        let low = rec.low in
        let high = rec.high in record {
          low = omega arith;
          high = omega (arith, length-drop k rest);
          stays = λ after. step.2 after ∙ rec.stays after;
        }
    by_turn (ends later k) t again =
        let step = body_ends part so_far later at k rest t in
        let within = step.0 in
        let same = sym step.1 ∙ e in
        let place : at + k ≡ end = cc in record {
          low = omega arith;
          high = omega arith;
          stays = λ after.
              let settled = subst (IsSettled (λ u. turn part so_far at (rest ++ after) ≡ u)) t (turn_settled part so_far at rest after) in
              (body_ends part so_far later at k (rest ++ after) settled).1 ∙ same;
        }

abbrev HeadFound : Type 0
HeadFound = Option (Result (Begun × ℕ) WireWhy)

-- how many bytes a head takes
length_of : (b : Begun) (n m : ℕ) (r : Result Begun WireWhy) → with_length m r ≡ Ok (b, n) → m ≡ n
length_of b n m (Ok c) e =
    let p : ◌≡◌ {A = Begun × ℕ} (c, m) (b, n) = cc in λ i. (p i).1
length_of b n m (Err why) e = cc

head_within : (place : ℕ) (bytes : List ℕ) (b : Begun) (n : ℕ) → head_at place bytes ≡ Some (Ok (b, n)) → n ≤ length bytes
unfolding head_at
head_within place bytes b n e = by_line (first_empty_line Before (take max_head bytes)) refl e
  where
    by_test : (t : Bool) (why : WireWhy) (h : Begun × ℕ) → cond t None (Some (Err why)) ≡ Some (Ok h) → ⊥
    by_test true why h e = cc
    by_test false why h e = cc

    by_line : (o : Option ℕ) → first_empty_line Before (take max_head bytes) ≡ o → head_ending place bytes o ≡ Some (Ok (b, n)) → n ≤ length bytes
    by_line None found e = absurd (by_test (nat_lt (length bytes) max_head) (long_head (take max_head bytes)) (b, n) e)
    by_line (Some m) found e =
        let inner : with_length m (judged_request place (past_breaks (take m bytes))) ≡ Ok (b, n) = cc in
        let same = length_of b n m (judged_request place (past_breaks (take m bytes))) inner in
        let within = (empty_line_is_found Before (take max_head bytes) m found).within in
        omega (arith, length-window max_head bytes)

-- a message ends within the bytes, and stays whatever follows
pub record IsMessageAt (place : ℕ) (bytes : List ℕ) (m : RequestMessage) (next : ℕ) : Type 0 where
  pub low : place ≤ next
  pub high : next ≤ place + length bytes
  pub stays : (after : List ℕ) → message_at place (bytes ++ after) ≡ Some (m, next)

-- what is read of a head and its body, with more bytes after them
stays_begun : (place : ℕ) (bytes after : List ℕ) (b : Begun) (n : ℕ) (body : List ℕ) (end : ℕ) → head_at place bytes ≡ Some (Ok (b, n)) → n ≤ length bytes
    → body_from (first_part b.framing) [] (place + n) (drop n bytes ++ after) ≡ ended body end
    → request_reading place (bytes ++ after) ≡ begun b (ended body end)
unfolding request_reading
stays_begun place bytes after b n body end e within whole =
    ap (reading_by place (bytes ++ after)) (head_stays place bytes after (Ok (b, n)) e)
    ∙ ap (λ xs. begun b (body_from (first_part b.framing) [] (place + n) xs)) (drop-append-le n bytes after within)
    ∙ ap (begun b) whole

pub message_is_at : (place : ℕ) (bytes : List ℕ) (m : RequestMessage) (next : ℕ) → message_at place bytes ≡ Some (m, next)
    → IsMessageAt place bytes m next
unfolding message_at request_reading
message_is_at place bytes m next e = by_head (head_at place bytes) refl e
  where
    by_body : (b : Begun) (n : ℕ) → head_at place bytes ≡ Some (Ok (b, n)) → (x : Body)
        → body_from (first_part b.framing) [] (place + n) (drop n bytes) ≡ x → message_by (begun b x) ≡ Some (m, next) → IsMessageAt place bytes m next
    by_body b n f unended g e = cc
    by_body b n f (spoiled w) g e = cc
    by_body b n f (ended body end) g e =
        let p : ◌≡◌ {A = RequestMessage × ℕ} (with_body b.message body, end) (m, next) = cc in
        let place_is : end ≡ next = λ i. (p i).1 in
        let within = head_within place bytes b n f in
        let is = body_is_ended (suc (length (drop n bytes))) (first_part b.framing) [] (place + n) (drop n bytes) body end (omega arith) g in
        let low = is.low in
        let high = is.high in record {
          low = omega arith;
          high = omega (arith, length-drop n bytes);
          stays = λ after. ap message_by (stays_begun place bytes after b n body end f within (is.stays after)) ∙ e;
        }

    by_head : (o : HeadFound) → head_at place bytes ≡ o → message_by (reading_by place bytes o) ≡ Some (m, next) → IsMessageAt place bytes m next
    by_head None f e = cc
    by_head (Some (Err why)) f e = cc
    by_head (Some (Ok (b, n))) f e = by_body b n f (body_from (first_part b.framing) [] (place + n) (drop n bytes)) refl e

-- ---- the division

pub divides_within : (ms : List RequestMessage) (place : ℕ) (bytes : List ℕ) (end : ℕ) (rest : List ℕ) → Divides place bytes ms end rest
    → (place ≤ end) × (end ≤ place + length bytes) × (rest ≡ drop (end - place) bytes)
divides_within [] place bytes end rest d =
    let same = d.0 in
    let none : 0 ≡ end - place = omega arith in
    (omega arith, omega arith, d.1 ∙ ap (λ k. drop k bytes) none)
divides_within (m ∷ ms) place bytes end rest d =
    let next = d.0 in
    let is = message_is_at place bytes m next d.1 in
    let low = is.low in
    let high = is.high in
    let later = divides_within ms next (drop (next - place) bytes) end rest d.2 in
    let low' = later.0 in
    let high' = later.1 in
    let far : next - place + (end - next) ≡ end - place = omega arith in
    (omega arith, omega (arith, length-drop (next - place) bytes), later.2 ∙ drop-drop (end - next) (next - place) bytes ∙ ap (λ k. drop k bytes) far)

-- more bytes change no message
pub divides_grows : (ms : List RequestMessage) (place : ℕ) (bytes after : List ℕ) (end : ℕ) (rest : List ℕ) → Divides place bytes ms end rest
    → Divides place (bytes ++ after) ms end (rest ++ after)
divides_grows [] place bytes after end rest d = (d.0, ap (λ xs. xs ++ after) d.1)
divides_grows (m ∷ ms) place bytes after end rest d =
    let next = d.0 in
    let is = message_is_at place bytes m next d.1 in
    let low = is.low in
    let high = is.high in
    let cut = drop-append-le (next - place) bytes after (omega arith) in (
      next,
      is.stays after,
      subst (λ (xs : List ℕ). Divides next xs ms end (rest ++ after)) (sym cut)
          (divides_grows ms next (drop (next - place) bytes) after end rest d.2),
    )

-- one message more
pub divides_push : (ms : List RequestMessage) (m : RequestMessage) (place : ℕ) (bytes : List ℕ) (end : ℕ) (rest : List ℕ) (next : ℕ)
    → Divides place bytes ms end rest → message_at end rest ≡ Some (m, next) → Divides place bytes (ms ++ m ∷ []) next (drop (next - end) rest)
divides_push [] m place bytes end rest next d e =
    let p = d.0 in
    let b = d.1 in
    let q = sym p in
    let c = sym b in
    (next, (λ i. message_at (q i) (c i)) ∙ e, (refl, λ i. drop (next - p i) (b i)))
divides_push (n ∷ ms) m place bytes end rest next d e = (d.0, d.1, divides_push ms m d.0 (drop (d.0 - place) bytes) end rest next d.2 e)

-- one division
pub one_division : (ms ns : List RequestMessage) (place : ℕ) (bytes : List ℕ) (q s : ℕ) (r t : List ℕ) → Divides place bytes ms q r
    → Divides place bytes ns s t → message_at q r ≡ None → message_at s t ≡ None → (ms ≡ ns) × (q ≡ s) × (r ≡ t)
one_division [] [] place bytes q s r t d e stop halt = (refl, d.0 ∙ sym e.0, d.1 ∙ sym e.1)
one_division [] (n ∷ ns) place bytes q s r t d e stop halt =
    let p = d.0 in
    let b = d.1 in
    let none = (let q = sym p in let c = sym b in λ i. message_at (q i) (c i)) ∙ stop in
    let some = sym none ∙ e.1 in cc
one_division (m ∷ ms) [] place bytes q s r t d e stop halt =
    let p = e.0 in
    let b = e.1 in
    let none = (let q = sym p in let c = sym b in λ i. message_at (q i) (c i)) ∙ halt in
    let some = sym none ∙ d.1 in cc
one_division (m ∷ ms) (n ∷ ns) place bytes q s r t d e stop halt =
    let p : ◌≡◌ {A = RequestMessage × ℕ} (m, d.0) (n, e.0) = (let both = sym d.1 ∙ e.1 in cc) in
    let next : e.0 ≡ d.0 = sym (λ i. (p i).1) in
    let later = subst (λ (k : ℕ). Divides k (drop (k - place) bytes) ns s t) next e.2 in
    let rec = one_division ms ns d.0 (drop (d.0 - place) bytes) q s r t d.2 later stop halt in
    ((λ i. (p i).0 ∷ rec.0 i), rec.1, rec.2)

-- ---- what `next` gives is the next message

pub next_message : (fed : Fed) (m : RequestMessage) → step_of (next_of fed) ≡ Ok (Message m)
    → (next : ℕ) × (message_at fed.place fed.bytes ≡ Some (m, next)) × (fed_after fed (next_of fed) ≡ fed_next fed next)
unfolding next_of message_at
next_message fed m e = by_fault fed.fault (request_reading fed.place fed.bytes) e
  where
    by_body : (b : Begun) (x : Body) → step_of (body_answer b x) ≡ Ok (Message m)
        → (next : ℕ) × (message_by (begun b x) ≡ Some (m, next)) × (fed_after fed (body_answer b x) ≡ fed_next fed next)
    by_body b unended e = cc
    by_body b (spoiled f) e = cc
    by_body b (ended body end) e =
        let same : with_body b.message body ≡ m = cc in
        (end, ap (λ (x : RequestMessage). Some (x, end)) same, refl)

    by_test : (t : Bool) (b : Begun) (x : Body) → step_of (cond t interim (body_answer b x)) ≡ Ok (Message m)
        → (next : ℕ) × (message_by (begun b x) ≡ Some (m, next)) × (fed_after fed (cond t interim (body_answer b x)) ≡ fed_next fed next)
    by_test true b x e = cc
    by_test false b x e = by_body b x e

    by_fault : (o : Option WireFault) (r : Reading) → step_of (answer_by o fed.told r) ≡ Ok (Message m)
        → (next : ℕ) × (message_by r ≡ Some (m, next)) × (fed_after fed (answer_by o fed.told r) ≡ fed_next fed next)
    by_fault (Some f) r e = cc
    by_fault None unread e = cc
    by_fault None (refused f) e = cc
    by_fault None (begun b x) e = by_test (b.expects && not fed.told) b x e
