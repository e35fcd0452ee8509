-- What a reader of requests stands for, from one turn to the next.
use Rattle.std.proofs.Common.{◌≡◌, ℕ, ◌+◌, ◌-◌, ◌^◌, ◌<◌, ◌≤◌, true, false, not, ◌&&◌, cond, List, [], ◌++◌, length, take, drop, min, Option, Some, None, Result, Ok, Err, refl, sym, ap, ◌∙◌, subst, arith}
use Rattle.std.specs.Prelude.{IfOk}
use Rattle.std.specs.List.{list_all}
use Rattle.std.proofs.lemmas.List.{append-nil, append_assoc, length-append, length-drop, drop-append-le, drop-drop, take-append-le}
use Rattle.std.proofs.lemmas.List.Folds.{list_all-append}
use Rattle.std.proofs.lemmas.Bool.{and_left, cond-true, cond-false}
use Rattle.rs_path.specs.declared.no_memory.NoMemory.{NoMemory}
use Rattle.rs_request.specs.declared.fault.WireFault.{WireFault}
use Rattle.rs_request.specs.declared.fault.WireWhy.{WireWhy}
use Rattle.rs_request.specs.declared.fault.WireWhy.TheVariants.{Truncated}
use Rattle.rs_request.specs.declared.framing.Framing.{Framing}
use Rattle.rs_request.specs.declared.framing.Framing.TheVariants as framed
use Rattle.rs_request.specs.declared.fault.NextFault.{NextFault}
use Rattle.rs_request.specs.declared.fault.NextFault.TheVariants.{Wire}
use Rattle.rs_request.specs.declared.message.Step.{Step}
use Rattle.rs_request.specs.declared.message.RequestMessage.{RequestMessage}
use Rattle.rs_request.specs.declared.head.Begun.{Begun}
use Rattle.rs_request.specs.declared.body.BodyReader.{BodyReader}
use Rattle.rs_request.specs.declared.body.Move.{Move}
use Rattle.rs_request.specs.declared.search.Search.{Search}
use Rattle.rs_request.specs.declared.body.Part.{Part}
use Rattle.rs_request.specs.declared.body.Part.TheVariants.{Length, Line, Data, Trailer}
use Rattle.rs_request.specs.declared.search.Spot.{Spot}
use Rattle.rs_request.specs.declared.search.Spot.TheVariants.{Before, Fresh}
use Rattle.rs_request.specs.declared.reader.Opened.{Opened}
use Rattle.rs_request.specs.declared.reader.Stage.{Stage}
use Rattle.rs_request.specs.declared.reader.Stage.TheVariants.{Head, Stopped}
use Rattle.rs_request.specs.declared.reader.Stage.TheVariants as stage
use Rattle.rs_request.specs.declared.reader.RequestReader.{RequestReader}
use Rattle.rs_request.specs.Limits.{max_head, max_trailer}
use Rattle.rs_request.specs.Lines.{is_break, first_line, spot_after}
use Rattle.rs_request.specs.Sought.{IsSought}
use Rattle.rs_request.specs.RequestHeads.{head_at, IsHeadWithin}
use Rattle.rs_request.specs.Bodies.{Body, fault_at, first_part, body_from}
use Rattle.rs_request.specs.BodyReaders.{IsPartAt, IsSameBody, reader_body, Moves, IsMove}
use Rattle.rs_request.specs.Readings.{Reading, unread, refused, begun, reading_by, request_reading, Fed, fed_with, Answer, more, interim, message, fault, body_answer, reading_answer, answer_by, next_of, step_of, fed_after, finish_by, finish_of}
use Rattle.rs_request.specs.Readers.{StandsAtHead, StandsInBody, StandsAt, IsFed, Stands, IsReaderTurn}
use Rattle.rs_request.proofs.HeadLemmas.{head_stays, head_has_text}
use Rattle.rs_request.proofs.LinesLemmas.{window_more}

-- what `next` may answer, from what is due
pub turned : (fed : Fed) (new : RequestReader) (a : Answer) → next_of fed ≡ a → Stands new (fed_after fed a)
    → (step_of (next_of fed) ≡ step_of a) × Stands new (fed_after fed (next_of fed))
turned fed new a e stands = (ap step_of e, subst (λ (a : Answer). Stands new (fed_after fed a)) (sym e) stands)

answer_is : (fed : Fed) (r : Reading) → fed.fault ≡ None → request_reading fed.place fed.bytes ≡ r → next_of fed ≡ reading_answer fed.told r
unfolding next_of
answer_is fed r whole e = (λ i. answer_by (whole i) fed.told (e i))

-- ---- at a head

module _ (search : Search) (taken : ℕ) (left : List ℕ) (fed : Fed) (stands : StandsAtHead search taken left fed) where
  read_at : (o : Option (Result (Begun × ℕ) WireWhy)) → head_at taken left ≡ o → request_reading fed.place fed.bytes ≡ reading_by taken left o
  unfolding request_reading
  read_at o e = (λ i. reading_by (stands.place i) (stands.bytes i) (head_at (stands.place i) (stands.bytes i))) ∙ ap (reading_by taken left) e

  pub head_waits : head_at taken left ≡ None → next_of fed ≡ more
  head_waits e = answer_is fed unread stands.whole (read_at None e)

  pub head_fails : (why : WireWhy) → head_at taken left ≡ Some (Err why) → next_of fed ≡ fault (fault_at why taken)
  head_fails why e = answer_is fed (refused (fault_at why taken)) stands.whole (read_at (Some (Err why)) e)

-- the search may have come further
pub head_sought : (search next : Search) (taken : ℕ) (left : List ℕ) (fed : Fed) → IsFed (Head search) taken left fed
    → IsSought Before next (take max_head left) → IsFed (Head next) taken left fed
head_sought search next taken left fed f sought = record {
  count = f.count;
  small = f.small;
  stands = record { whole = f.stands.whole; told = f.stands.told; place = f.stands.place; bytes = f.stands.bytes; sought = sought };
}

first_fits : (framing : Framing) (rest : List ℕ) → IsPartAt (first_part framing) rest
first_fits framed.Unstated rest = tt
first_fits (framed.Length n) rest = tt
first_fits framed.Chunked rest = record { low = omega arith; within = omega arith; unfound = refl }

-- the counts after n bytes were taken
taken_count : (taken n : ℕ) (left : List ℕ) → n ≤ length left → taken + n + length (drop n left) ≡ taken + length left
taken_count taken n left within = omega (arith, length-drop n left)

opening : (taken n : ℕ) (left after : List ℕ) (opened : Opened) → head_at taken left ≡ Some (Ok (opened.begun, n)) → n ≤ length left
    → opened.reader.part ≡ first_part opened.begun.framing → opened.reader.body.items ≡ []
    → request_reading taken (left ++ after) ≡ begun opened.begun (reader_body opened.reader (taken + n) (drop n left ++ after))
unfolding request_reading
opening taken n left after opened e within part body =
    let p = sym part in
    let b = sym body in
    let later = drop-append-le n left after within in
    ap (reading_by taken (left ++ after)) (head_stays taken left after (Ok (opened.begun, n)) e)
    ∙ (λ i. begun opened.begun (body_from (p i) (b i) (taken + n) (later i)))

-- a head was read
pub head_opens : (search : Search) (taken n : ℕ) (left : List ℕ) (fed : Fed) (opened : Opened) → IsFed (Head search) taken left fed
    → head_at taken left ≡ Some (Ok (opened.begun, n)) → n ≤ length left → opened.told ≡ false
    → opened.reader.part ≡ first_part opened.begun.framing → opened.reader.body.items ≡ []
    → IsFed (stage.Body opened) (taken + n) (drop n left) fed
head_opens before taken n left fed opened f e within told part body =
    let s = f.stands in
    let place = s.place in
    let bytes = s.bytes in
    let ahead : fed.place ≤ taken + n = omega arith in
    let far : n ≡ taken + n - fed.place = omega arith in
    record {
      count = taken_count taken n left within ∙ f.count;
      small = subst (λ (m : ℕ). m < 2 ^ 64) (sym (taken_count taken n left within)) f.small;
      stands = record {
        whole = s.whole;
        told = s.told ∙ sym told;
        ahead = ahead;
        rest = (let back = sym bytes in λ i. drop (far i) (back i));
        some = subst (λ (xs : List ℕ). list_all is_break xs ≡ false) (sym bytes) (head_has_text taken left opened.begun n e);
        same = λ after. (λ i. request_reading (place i) (bytes i ++ after)) ∙ opening taken n left after opened e within part body;
        fits = subst (λ (p : _). IsPartAt p (drop n left)) (sym part) (first_fits opened.begun.framing (drop n left));
      };
    }

-- ---- in a body

module _ (opened : Opened) (taken : ℕ) (left : List ℕ) (fed : Fed) (stands : StandsInBody opened taken left fed) where
  body_read : request_reading fed.place fed.bytes ≡ begun opened.begun (reader_body opened.reader taken left)
  body_read =
      ap (request_reading fed.place) (sym (append-nil fed.bytes)) ∙ stands.same []
      ∙ ap (λ xs. begun opened.begun (reader_body opened.reader taken xs)) (append-nil left)

  pub interim_due : (opened.begun.expects && not opened.told) ≡ true → next_of fed ≡ interim
  interim_due due =
      answer_is fed _ stands.whole body_read
      ∙ (λ i. reading_answer (stands.told i) (begun opened.begun (reader_body opened.reader taken left)))
      ∙ (λ i. cond (due i) interim (body_answer opened.begun (reader_body opened.reader taken left)))

  pub body_due : (body : Body) → (opened.begun.expects && not opened.told) ≡ false → reader_body opened.reader taken left ≡ body
      → next_of fed ≡ body_answer opened.begun body
  body_due body due e =
      answer_is fed _ stands.whole body_read
      ∙ (λ i. reading_answer (stands.told i) (begun opened.begun (e i)))
      ∙ (λ i. cond (due i) interim (body_answer opened.begun body))

-- the interim reply was asked for
pub body_told : (opened next : Opened) (taken : ℕ) (left : List ℕ) (fed : Fed) → IsFed (stage.Body opened) taken left fed
    → next.begun ≡ opened.begun → next.reader ≡ opened.reader → next.told ≡ true
    → IsFed (stage.Body next) taken left (record fed { told = true })
body_told opened next taken left fed f b r told = record {
  count = f.count;
  small = f.small;
  stands = record {
    whole = f.stands.whole;
    told = sym told;
    ahead = f.stands.ahead;
    rest = f.stands.rest;
    some = f.stands.some;
    same = λ after. f.stands.same after ∙ (let c = sym b in let q = sym r in λ i. begun (c i) (reader_body (q i) taken (left ++ after)));
    fits = subst (λ (x : BodyReader). IsPartAt x.part left) (sym r) f.stands.fits;
  };
}

-- the reader of the body took n bytes
pub body_moved : (opened next : Opened) (taken n : ℕ) (left : List ℕ) (fed : Fed) → IsFed (stage.Body opened) taken left fed
    → next.begun ≡ opened.begun → next.told ≡ opened.told → Moves opened.reader next.reader taken n left
    → IsFed (stage.Body next) (taken + n) (drop n left) fed
body_moved opened next taken n left fed f b told moves =
    let s = f.stands in
    let ahead = s.ahead in
    let far : taken - fed.place + n ≡ taken + n - fed.place = omega arith in
    record {
      count = taken_count taken n left moves.within ∙ f.count;
      small = subst (λ (m : ℕ). m < 2 ^ 64) (sym (taken_count taken n left moves.within)) f.small;
      stands = record {
        whole = s.whole;
        told = s.told ∙ sym told;
        ahead = omega arith;
        rest = ap (drop n) s.rest ∙ drop-drop n (taken - fed.place) fed.bytes ∙ ap (λ m. drop m fed.bytes) far;
        some = s.some;
        same = λ after. s.same after ∙ (let c = sym b in λ i. begun (c i) (moves.same after i));
        fits = moves.fits;
      };
    }

-- the reader of the body is as before
pub body_same : (opened next : Opened) (taken : ℕ) (left : List ℕ) (fed : Fed) → IsFed (stage.Body opened) taken left fed
    → next.begun ≡ opened.begun → next.told ≡ opened.told → IsSameBody opened.reader next.reader
    → IsFed (stage.Body next) taken left fed
body_same opened next taken left fed f b told same = record {
  count = f.count;
  small = f.small;
  stands = record {
    whole = f.stands.whole;
    told = f.stands.told ∙ sym told;
    ahead = f.stands.ahead;
    rest = f.stands.rest;
    some = f.stands.some;
    same = λ after. f.stands.same after ∙ (let c = sym b in let p = sym same.part in let q = sym same.body in λ i. begun (c i) (body_from (p i) (q i) taken (left ++ after)));
    fits = subst (λ (p : _). IsPartAt p left) (sym same.part) f.stands.fits;
  };
}

-- a message ended after n bytes more
pub body_ended : (opened : Opened) (taken n : ℕ) (left : List ℕ) (fed : Fed) (m : RequestMessage) → IsFed (stage.Body opened) taken left fed
    → n ≤ length left → IsFed (Head (record { sought = 0; spot = Before })) (taken + n) (drop n left) (fed_after fed (message m (taken + n)))
body_ended opened taken n left fed m f within =
    let s = f.stands in
    let ahead = s.ahead in
    let far : taken - fed.place + n ≡ taken + n - fed.place = omega arith in
    let rest : drop n left ≡ drop (taken + n - fed.place) fed.bytes =
    ap (drop n) s.rest ∙ drop-drop n (taken - fed.place) fed.bytes ∙ ap (λ m. drop m fed.bytes) far in
    record {
      count = ap (λ xs. taken + n + length xs) rest;
      small = subst (λ (m : ℕ). m < 2 ^ 64) (sym (taken_count taken n left within)) f.small;
      stands = record {
        whole = refl;
        told = refl;
        place = refl;
        bytes = sym rest;
        sought = record { within = omega arith; spot = refl };
      };
    }

-- a fault was answered
pub stopped : (old : Stage) (taken : ℕ) (left : List ℕ) (fed : Fed) (f : WireFault) → IsFed old taken left fed
    → IsFed (Stopped f) taken left (record fed { fault = Some f })
stopped old taken left fed f is = record { count = is.count; small = is.small; stands = refl }

-- ---- more bytes

grown_search : (start : Spot) (n : ℕ) (s : Search) (xs ys : List ℕ) → IsSought start s (take n xs) → IsSought start s (take n (xs ++ ys))
grown_search start n s xs ys sought =
    let larger = window_more n xs ys in
    let within = sought.within in
    subst (IsSought start s) (sym larger.1) (record {
      within = omega (arith, length-append (take n xs) larger.0);
      spot = ap (spot_after start) (take-append-le s.sought (take n xs) larger.0 within) ∙ sought.spot;
    })

grown_part : (part : Part) (rest after : List ℕ) → IsPartAt part rest → IsPartAt part (rest ++ after)
grown_part (Length n) rest after fits = tt
grown_part (Line sought) rest after fits =
    let within = fits.within in record {
      low = fits.low;
      within = omega (arith, length-append rest after);
      unfound = ap first_line (take-append-le sought rest after within) ∙ fits.unfound;
    }
grown_part (Data n) rest after fits = tt
grown_part (Trailer s) rest after fits = grown_search Fresh max_trailer s rest after fits

grown_stage : (s : Stage) (taken : ℕ) (left : List ℕ) (fed : Fed) (piece : List ℕ) → taken + length left ≡ fed.place + length fed.bytes
    → StandsAt s taken left fed → StandsAt s taken (left ++ piece) (fed_with fed piece)
grown_stage (Head s) taken left fed piece count stands = record {
  whole = stands.whole;
  told = stands.told;
  place = stands.place;
  bytes = ap (λ xs. xs ++ piece) stands.bytes;
  sought = grown_search Before max_head s left piece stands.sought;
}
grown_stage (stage.Body opened) taken left fed piece count stands =
    let ahead = stands.ahead in record {
      whole = stands.whole;
      told = stands.told;
      ahead = ahead;
      rest = ap (λ xs. xs ++ piece) stands.rest ∙ sym (drop-append-le (taken - fed.place) fed.bytes piece (omega arith));
      some = list_all-append is_break fed.bytes piece ∙ and_left _ _ stands.some;
      same = λ after. ap (request_reading fed.place) (append_assoc fed.bytes piece after) ∙ stands.same (piece ++ after)
          ∙ ap (λ xs. begun opened.begun (reader_body opened.reader taken xs)) (sym (append_assoc left piece after));
      fits = grown_part opened.reader.part left piece stands.fits;
    }
grown_stage (Stopped f) taken left fed piece count stands = stands

pub grown : (s : Stage) (taken : ℕ) (left : List ℕ) (fed : Fed) (piece : List ℕ) → IsFed s taken left fed → taken + length left + length piece < 2 ^ 64
    → IsFed s taken (left ++ piece) (fed_with fed piece)
grown s taken left fed piece f small =
    let count = f.count in record {
      count = omega (arith, length-append left piece, length-append fed.bytes piece);
      small = omega (arith, length-append left piece);
      stands = grown_stage s taken left fed piece count f.stands;
    }

-- a turn that answers a fault
pub turns_fault : (fed : Fed) (new : RequestReader) (r : Result (Option Step) NextFault) (f : WireFault) → r ≡ Err (Wire f)
    → next_of fed ≡ fault f → Stands new (record fed { fault = Some f }) → IsReaderTurn fed new r
turns_fault fed new r f e due stands =
    let at : Result (Option Step) NextFault → Type 0 = λ r. IsReaderTurn fed new r in
    subst at (sym e) (turned fed new (fault f) due stands)

-- what the search for a head found, said of the bytes that are left
pub record Finds (after : Search) (place : ℕ) (left : List ℕ) (r : Result (Option (Result (Begun × ℕ) WireWhy)) NoMemory) : Type 0 where
  pub found : IfOk r (λ h. h ≡ head_at place left)
  pub kept : IsSought Before after (take max_head left)
  pub within : IfOk r (IsHeadWithin left)

pub finds : (before after : Search) (place : ℕ) (bytes left : List ℕ) (r : Result (Option (Result (Begun × ℕ) WireWhy)) NoMemory) → bytes ≡ left
    → (IsSought Before before (take max_head bytes) → IfOk r (λ h. h ≡ head_at place bytes))
    → (IsSought Before before (take max_head bytes) → IsSought Before after (take max_head bytes))
    → IfOk r (IsHeadWithin bytes) → IsSought Before before (take max_head left) → Finds after place left r
finds before after place bytes left r e found kept within sought =
    let here = subst (λ (xs : List ℕ). IsSought Before before (take max_head xs)) (sym e) sought in record {
      found = subst (λ (xs : List ℕ). IfOk r (λ h. h ≡ head_at place xs)) e (found here);
      kept = subst (λ (xs : List ℕ). IsSought Before after (take max_head xs)) e (kept here);
      within = subst (λ (xs : List ℕ). IfOk r (IsHeadWithin xs)) e within;
    }

-- the bytes and their place after n were dropped
pub skipped : (next : Stage) (taken n : ℕ) (left : List ℕ) (fed : Fed) (new_taken : ℕ) (new_left : List ℕ) (old : Stage) (before : Fed)
    → IsFed old taken left before → n ≤ length left → (taken + n < 2 ^ 64 → new_taken ≡ taken + n) → new_left ≡ drop n left
    → IsFed next (taken + n) (drop n left) fed → IsFed next new_taken new_left fed
skipped next taken n left fed new_taken new_left old before f within t l is =
    let small = f.small in
    let here = sym (t (omega arith)) in
    let rest = sym l in
    subst (λ (m : ℕ). IsFed next m new_left fed) here (subst (λ (xs : List ℕ). IsFed next (taken + n) xs fed) rest is)

-- what the reader of the body did, said of the bytes that are left
pub advanced : (old new : BodyReader) (at : ℕ) (bytes left : List ℕ) (r : Result Move NoMemory) → bytes ≡ left
    → (IsPartAt old.part bytes → at + length bytes < 2 ^ 64 → IfOk r (IsMove old new at bytes))
    → IsPartAt old.part left → at + length left < 2 ^ 64 → IfOk r (IsMove old new at left)
advanced old new at bytes left r e ok = subst (λ (xs : List ℕ). IsPartAt old.part xs → at + length xs < 2 ^ 64 → IfOk r (IsMove old new at xs)) e ok

-- a fault that was answered is answered again
pub stopped_due : (fed : Fed) (f : WireFault) → fed.fault ≡ Some f → next_of fed ≡ fault f
unfolding next_of
stopped_due fed f e = ap (λ o. answer_by o fed.told (request_reading fed.place fed.bytes)) e

-- ---- the end of the stream

pub finish_stopped : (fed : Fed) (f : WireFault) → fed.fault ≡ Some f → finish_of fed ≡ Ok tt
unfolding finish_of
finish_stopped fed f e = ap (λ o. finish_by o (fed.place + length fed.bytes) fed.bytes) e

pub finish_whole : (fed : Fed) → fed.fault ≡ None → list_all is_break fed.bytes ≡ true → finish_of fed ≡ Ok tt
unfolding finish_of
finish_whole fed e all =
    ap (λ o. finish_by o (fed.place + length fed.bytes) fed.bytes) e
    ∙ cond-true _ (Ok tt) (Err (fault_at Truncated (fed.place + length fed.bytes))) all

pub finish_cut : (fed : Fed) (place : ℕ) → fed.fault ≡ None → list_all is_break fed.bytes ≡ false → fed.place + length fed.bytes ≡ place
    → finish_of fed ≡ Err (fault_at Truncated place)
unfolding finish_of
finish_cut fed place e some count =
    ap (λ o. finish_by o (fed.place + length fed.bytes) fed.bytes) e
    ∙ cond-false _ (Ok tt) (Err (fault_at Truncated (fed.place + length fed.bytes))) some
    ∙ ap (λ n. Err (fault_at Truncated n)) count

-- the place of the end
pub end_place : (s : Stage) (taken : ℕ) (left : List ℕ) (fed : Fed) (end : ℕ) → IsFed s taken left fed → end ≡ min (taken + length left) (2 ^ 64 - 1)
    → fed.place + length fed.bytes ≡ end
end_place s taken left fed end f e =
    let count = f.count in
    let small = f.small in
    omega arith
