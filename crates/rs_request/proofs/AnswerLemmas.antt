-- What is answered where a whole request is read.
use Rattle.std.proofs.Common.{◌≡◌, ℕ, ◌+◌, Bool, true, false, not, ◌&&◌, cond, List, [], length, take, drop, Option, Some, None, Result, Ok, Err, refl, sym, ap, ◌∙◌}
use Rattle.std.specs.Prelude.{nat_lt}
use Rattle.std.specs.Option.{option_map_or}
use Rattle.httparse.specs.Grammar.{RequestHead}
use Rattle.rs_request.specs.declared.fault.WireFault.{WireFault}
use Rattle.rs_request.specs.declared.fault.WireWhy.{WireWhy}
use Rattle.rs_request.specs.declared.fault.WireWhy.TheVariants.{BadHead, HeadLong}
use Rattle.rs_request.specs.declared.framing.Framing.{Framing}
use Rattle.rs_request.specs.declared.head.Begun.{Begun}
use Rattle.rs_request.specs.declared.message.RequestMessage.{RequestMessage}
use Rattle.rs_request.specs.Limits.{max_fields, max_head}
use Rattle.rs_request.specs.declared.search.Spot.TheVariants.{Before}
use Rattle.rs_request.specs.Lines.{first_empty_line, past_breaks}
use Rattle.rs_request.specs.Framing.{head_framing}
use Rattle.rs_request.specs.RequestTexts.{request_head}
use Rattle.rs_request.specs.RequestHeads.{fields_of, begun_at, begun_by, judged_head, judged_request, long_head, with_length, head_ending, head_at}
use Rattle.rs_request.specs.Bodies.{Body, unended, ended, spoiled, first_part, body_from}
use Rattle.rs_request.specs.Readings.{Reading, unread, refused, begun, reading_by, request_reading, Fed, interim, message, with_body, body_answer, answer_by, next_of}
use Rattle.rs_request.specs.Division.{message_by, message_at}
use Rattle.rs_request.specs.Laws.{awaits_by, awaits}

-- ---- the head that was read

-- the head takes so many bytes, up to its first empty line, and it is one of the grammar that begins this request
pub record IsHeadRead (place : ℕ) (bytes : List ℕ) (b : Begun) (n : ℕ) : Type 0 where
  pub ends : first_empty_line Before (take max_head bytes) ≡ Some n
  pub head : RequestHead
  pub is : request_head (past_breaks (take n bytes)) ≡ Some head
  pub judged : judged_head place head ≡ Ok b

abbrev HeadFound : Type 0
HeadFound = Option (Result (Begun × ℕ) WireWhy)

count_of : (b : Begun) (n m : ℕ) (r : Result Begun WireWhy) → with_length m r ≡ Ok (b, n) → (r ≡ Ok b) × (m ≡ n)
count_of b n m (Ok c) e =
    let p : ◌≡◌ {A = Begun × ℕ} (c, m) (b, n) = cc in ((λ i. Ok (p i).0), λ i. (p i).1)
count_of b n m (Err why) e = cc

-- the grammar's head is there
judged_is : (place : ℕ) (text : List ℕ) (b : Begun) → judged_request place text ≡ Ok b
    → (h : RequestHead) × (request_head text ≡ Some h) × (judged_head place h ≡ Ok b)
unfolding judged_request
judged_is place text b e = by_head (request_head text) refl e
  where
    by_head : (o : Option RequestHead) → request_head text ≡ o → option_map_or (judged_head place) o (Err BadHead) ≡ Ok b
        → (h : RequestHead) × (request_head text ≡ Some h) × (judged_head place h ≡ Ok b)
    by_head None f e = cc
    by_head (Some h) f e = (h, f, e)

pub head_is_read : (place : ℕ) (bytes : List ℕ) (b : Begun) (n : ℕ) → head_at place bytes ≡ Some (Ok (b, n)) → IsHeadRead place bytes b n
unfolding head_at
head_is_read place bytes b n e = by_line (first_empty_line Before (take max_head bytes)) refl e
  where
    by_test : (t : Bool) (why : WireWhy) (h : Begun × ℕ) → cond t None (Some (Err why)) ≡ Some (Ok h) → ⊥
    by_test true why h e = cc
    by_test false why h e = cc

    by_line : (o : Option ℕ) → first_empty_line Before (take max_head bytes) ≡ o → head_ending place bytes o ≡ Some (Ok (b, n)) → IsHeadRead place bytes b n
    by_line None found e = absurd (by_test (nat_lt (length bytes) max_head) (long_head (take max_head bytes)) (b, n) e)
    by_line (Some m) found e =
        let inner : with_length m (judged_request place (past_breaks (take m bytes))) ≡ Ok (b, n) = cc in
        let parts = count_of b n m (judged_request place (past_breaks (take m bytes))) inner in
        let same = parts.1 in
        let is = judged_is place (past_breaks (take n bytes)) b (ap (λ k. judged_request place (past_breaks (take k bytes))) (sym same) ∙ parts.0) in
        record { ends = found ∙ ap Some same; head = is.0; is = is.1; judged = is.2 }

-- ---- the request that was read

-- the request is that of a head and of the body after it, which ends before the place
pub record IsReadAs (place : ℕ) (bytes : List ℕ) (m : RequestMessage) (next : ℕ) : Type 0 where
  pub begun : Begun
  pub count : ℕ
  pub head : head_at place bytes ≡ Some (Ok (begun, count))
  pub body : body_from (first_part begun.framing) [] (place + count) (drop count bytes) ≡ ended m.body next
  pub same : m ≡ with_body begun.message m.body

pub message_is_read : (place : ℕ) (bytes : List ℕ) (m : RequestMessage) (next : ℕ) → message_at place bytes ≡ Some (m, next) → IsReadAs place bytes m next
unfolding message_at request_reading
message_is_read place bytes m next e = by_head (head_at place bytes) refl e
  where
    by_body : (b : Begun) (n : ℕ) → head_at place bytes ≡ Some (Ok (b, n)) → (x : Body)
        → body_from (first_part b.framing) [] (place + n) (drop n bytes) ≡ x → message_by (begun b x) ≡ Some (m, next) → IsReadAs place bytes m next
    by_body b n f unended g e = cc
    by_body b n f (spoiled w) g e = cc
    by_body b n f (ended body end) g e =
        let p : ◌≡◌ {A = RequestMessage × ℕ} (with_body b.message body, end) (m, next) = cc in record {
          begun = b;
          count = n;
          head = f;
          body = g ∙ (λ i. ended (p i).0.body (p i).1);
          same = sym (λ i. (p i).0) ∙ (λ i. with_body b.message (p i).0.body);
        }

    by_head : (o : HeadFound) → head_at place bytes ≡ o → message_by (reading_by place bytes o) ≡ Some (m, next) → IsReadAs place bytes m next
    by_head None f e = cc
    by_head (Some (Err why)) f e = cc
    by_head (Some (Ok (b, n))) f e = by_body b n f (body_from (first_part b.framing) [] (place + n) (drop n bytes)) refl e

reading_is : (place : ℕ) (bytes : List ℕ) (m : RequestMessage) (next : ℕ) (r : IsReadAs place bytes m next)
    → request_reading place bytes ≡ begun r.begun (ended m.body next)
unfolding request_reading
reading_is place bytes m next r = ap (reading_by place bytes) r.head ∙ ap (begun r.begun) r.body

-- ---- the interim reply

-- what a judged head says
judged_parts : (place : ℕ) (h : RequestHead) (b : Begun) → judged_head place h ≡ Ok b
    → (framing : Framing) × (head_framing h.minor (length h.target) (fields_of h.fields) ≡ Ok framing)
    × (b ≡ begun_at place h.method h.target h.minor (fields_of h.fields) framing)
unfolding judged_head
judged_parts place h b e = by_test (nat_lt max_fields (length h.fields)) e
  where
    by_framing : (r : Result Framing WireWhy) → head_framing h.minor (length h.target) (fields_of h.fields) ≡ r
        → begun_by place h.method h.target h.minor (fields_of h.fields) r ≡ Ok b
        → (framing : Framing) × (head_framing h.minor (length h.target) (fields_of h.fields) ≡ Ok framing)
        × (b ≡ begun_at place h.method h.target h.minor (fields_of h.fields) framing)
    by_framing (Err why) f e = cc
    by_framing (Ok framing) f e =
        let same : begun_at place h.method h.target h.minor (fields_of h.fields) framing ≡ b = cc in (framing, f, sym same)

    by_test : (t : Bool) → cond t (Err HeadLong) (begun_by place h.method h.target h.minor (fields_of h.fields) (head_framing h.minor (length h.target) (fields_of h.fields))) ≡ Ok b
        → (framing : Framing) × (head_framing h.minor (length h.target) (fields_of h.fields) ≡ Ok framing)
        × (b ≡ begun_at place h.method h.target h.minor (fields_of h.fields) framing)
    by_test true e = cc
    by_test false e = by_framing (head_framing h.minor (length h.target) (fields_of h.fields)) refl e

awaits_is : (place : ℕ) (bytes : List ℕ) (m : RequestMessage) (next : ℕ) (r : IsReadAs place bytes m next) → r.begun.expects ≡ awaits m
awaits_is place bytes m next r =
    let read = head_is_read place bytes r.begun r.count r.head in
    let h = read.head in
    let parts = judged_parts place h r.begun read.judged in
    let b = begun_at place h.method h.target h.minor (fields_of h.fields) parts.0 in
    let is = parts.2 in
    let whole : m ≡ with_body b.message m.body = r.same ∙ (λ i. with_body (is i).message m.body) in
    ap (λ (c : Begun). c.expects) is ∙ sym (ap awaits whole ∙ ap (awaits_by (with_body b.message m.body)) parts.1)

-- the interim reply where it is due, and the request otherwise
pub message_answered : (fed : Fed) (m : RequestMessage) (next : ℕ) → fed.fault ≡ None → message_at fed.place fed.bytes ≡ Some (m, next)
    → next_of fed ≡ cond (awaits m && not fed.told) interim (message m next)
unfolding next_of
message_answered fed m next none e =
    let r = message_is_read fed.place fed.bytes m next e in
    let due = awaits_is fed.place fed.bytes m next r in
    let same = sym r.same in
    (λ i. answer_by (none i) fed.told (reading_is fed.place fed.bytes m next r i))
    ∙ (λ i. cond (due i && not fed.told) interim (message (same i) next))

-- what was answered as a request is that of the bytes
pub answered_message : (fed : Fed) (m : RequestMessage) (next : ℕ) → next_of fed ≡ message m next → message_at fed.place fed.bytes ≡ Some (m, next)
unfolding next_of message_at
answered_message fed m next e = by_fault fed.fault (request_reading fed.place fed.bytes) e
  where
    by_body : (b : Begun) (x : Body) → body_answer b x ≡ message m next → message_by (begun b x) ≡ Some (m, next)
    by_body b unended e = cc
    by_body b (spoiled f) e = cc
    by_body b (ended body end) e =
        let same : with_body b.message body ≡ m = cc in
        let place : end ≡ next = cc in
        λ i. Some (same i, place i)

    by_test : (t : Bool) (b : Begun) (x : Body) → cond t interim (body_answer b x) ≡ message m next → message_by (begun b x) ≡ Some (m, next)
    by_test true b x e = cc
    by_test false b x e = by_body b x e

    by_fault : (o : Option WireFault) (r : Reading) → answer_by o fed.told r ≡ message m next → message_by r ≡ Some (m, next)
    by_fault (Some f) r e = cc
    by_fault None unread e = cc
    by_fault None (refused f) e = cc
    by_fault None (begun b x) e = by_test (b.expects && not fed.told) b x e
