use Rattle.std.proofs.Common.{◌≡◌, ℕ, ◌+◌, ◌*◌, ◌<◌, ◌≤◌, length, drop, [], List, Result, Ok, Err, ap, ◌∙◌, subst, arith}
use Rattle.std.proofs.lemmas.List.{drop_all}
use Rattle.httparse.specs.Grammar.{ResponseHead, ReadsResponse}
use Rattle.httparse.specs.Outcome.{IfComplete, IsCompleteAnd}
use Rattle.httparse.specs.Spans.{IsResponseAt, IsResponseOf, IsResponseWithin}
use Rattle.httparse.specs.declared.Error.{Error}
use Rattle.httparse.specs.declared.Status.{Status}
use Rattle.httparse.specs.declared.Status.TheVariants.{Complete, Partial}
use Rattle.httparse.specs.declared.spans.HeaderSpan.{HeaderSpan}
use Rattle.httparse.specs.declared.spans.ResponseSpans.{ResponseSpans}
use Rattle.rs_request.specs.Lines.{past_breaks}
use Rattle.rs_reply.specs.Replies.{IsResponseIn}
use Rattle.rs_reply.proofs.ReplyLemmas.{response_found, response_none, response_room, response_length}
use Rattle.rs_reply.proofs.reply.find_parts.Goals as goal

abbrev Answer : Type 0
Answer = Result (Status ResponseSpans) Error

at_complete : (r : Answer) (spans : ResponseSpans) (P : ResponseSpans → Type 0) → r ≡ Ok (Complete spans) → IfComplete r P → P spans
at_complete r spans P e h = let at : Answer → Type 0 = λ r. IfComplete r P in subst at e h

found_complete : (r : Answer) (spans : ResponseSpans) (P : ResponseSpans → Type 0) → r ≡ Ok (Complete spans) → IsCompleteAnd r P → P spans
found_complete r spans P e h = let at : Answer → Type 0 = λ r. IsCompleteAnd r P in subst at e h

found_partial : (r : Answer) (P : ResponseSpans → Type 0) → r ≡ Ok Partial → IsCompleteAnd r P → ⊥
found_partial r P e h = let at : Answer → Type 0 = λ r. IsCompleteAnd r P in subst at e h

found_err : (r : Answer) (x : Error) (P : ResponseSpans → Type 0) → r ≡ Err x → IsCompleteAnd r P → ⊥
found_err r x P e h = let at : Answer → Type 0 = λ r. IsCompleteAnd r P in subst at e h

room_for : (text : List ℕ) (h : ResponseHead) (n : ℕ) → length text < 3 * n + 3 → ReadsResponse text h [] → length h.fields ≤ n
room_for text h n roomy reads = omega (arith, response_room text h reads)

other_length : (text : List ℕ) (room : List HeaderSpan) (spans : ResponseSpans) (h : ResponseHead) → ReadsResponse text h []
    → IsResponseAt text room spans h → spans.len ≡ length text
other_length text room spans h reads at = at.len ∙ response_length text h reads

in_text : (text : List ℕ) (room : List HeaderSpan) (spans : ResponseSpans) → past_breaks text ≡ text → spans.len ≡ length text
    → IsResponseOf text room spans → IsResponseWithin text room spans → IsResponseIn text room spans
in_text text room spans clean whole of within =
    let none : drop spans.len text ≡ [] = drop_all spans.len text (omega arith) in
    let reads = subst (λ (rest : List ℕ). ReadsResponse text of.0 rest) none of.1.reads in
    record { head = of.0; is = response_found text of.0 clean reads; at = of.1; within = within; whole = whole }

pub returns-then-spans-text-clause-none : goal.returns-then-spans-text-clause-none
returns-then-spans-text-clause-none c =
    let is = c.in-Ok-Complete.is ∙ ap Ok c.in-Ok-Complete.field-0-is in
    response_none c.args.text.now (λ h reads.
    c.if-spans-text.true (other_length c.args.text.now c.parse_response.new.headers c.in-Ok-Complete.spans h reads
    (found_complete c.parse_response.result c.in-Ok-Complete.spans (λ spans. IsResponseAt c.args.text.now c.parse_response.new.headers spans h) is
    (c.parse_response.ensures.found h [] reads (room_for c.args.text.now h _ c.requires.roomy reads)))))

pub returns-else-spans-text-clause-some : goal.returns-else-spans-text-clause-some
returns-else-spans-text-clause-some c =
    let is = c.in-Ok-Complete.is ∙ ap Ok c.in-Ok-Complete.field-0-is in
    let spans = c.in-Ok-Complete.spans in
    let room = c.parse_response.new.headers in
    let text = c.args.text.now in
    in_text text room spans c.requires.clean c.if-spans-text.false
    (at_complete c.parse_response.result spans (λ spans. IsResponseOf text room spans) is c.parse_response.ensures.complete)
    (at_complete c.parse_response.result spans (λ spans. IsResponseWithin text room spans) is c.parse_response.ensures.within)

pub returns-in-Ok-Partial-clause-none : goal.returns-in-Ok-Partial-clause-none
returns-in-Ok-Partial-clause-none c =
    let is = c.in-Ok-Partial.is ∙ ap Ok c.in-Ok-Partial.field-0-is in
    response_none c.args.text.now (λ h reads.
    found_partial c.parse_response.result (λ spans. IsResponseAt c.args.text.now c.parse_response.new.headers spans h) is
    (c.parse_response.ensures.found h [] reads (room_for c.args.text.now h _ c.requires.roomy reads)))

pub returns-in-Err-clause-none : goal.returns-in-Err-clause-none
returns-in-Err-clause-none c =
    response_none c.args.text.now (λ h reads.
    found_err c.parse_response.result c.in-Err.field-0 (λ spans. IsResponseAt c.args.text.now c.parse_response.new.headers spans h) c.in-Err.is
    (c.parse_response.ensures.found h [] reads (room_for c.args.text.now h _ c.requires.roomy reads)))
