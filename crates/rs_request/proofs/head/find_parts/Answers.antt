use Rattle.std.proofs.Common.{◌≡◌, ℕ, length, drop, [], List, Result, Ok, Err, ap, ◌∙◌, subst, arith}
use Rattle.std.proofs.Math.Nat.{lt_of_not-le}
use Rattle.std.proofs.lemmas.List.{drop_all}
use Rattle.httparse.specs.Grammar.{RequestHead, ReadsRequest}
use Rattle.httparse.specs.Outcome.{IfComplete, IsCompleteAnd}
use Rattle.httparse.specs.Spans.{IsRequestAt, IsRequestOf, IsRequestWithin}
use Rattle.httparse.specs.declared.Error.{Error}
use Rattle.httparse.specs.declared.Status.{Status}
use Rattle.httparse.specs.declared.Status.TheVariants.{Complete, Partial}
use Rattle.httparse.specs.declared.spans.HeaderSpan.{HeaderSpan}
use Rattle.httparse.specs.declared.spans.RequestSpans.{RequestSpans}
use Rattle.rs_request.specs.Lines.{past_breaks}
use Rattle.rs_request.specs.RequestHeads.{IsRequestIn}
use Rattle.rs_request.proofs.RequestLemmas.{request_found, text_length}
use Rattle.rs_request.proofs.head.find_parts.Goals as goal

abbrev Answer : Type 0
Answer = Result (Status RequestSpans) Error

at_complete : (r : Answer) (spans : RequestSpans) (P : RequestSpans → Type 0) → r ≡ Ok (Complete spans) → IfComplete r P → P spans
at_complete r spans P e h = let at : Answer → Type 0 = λ r. IfComplete r P in subst at e h

found_complete : (r : Answer) (spans : RequestSpans) (P : RequestSpans → Type 0) → r ≡ Ok (Complete spans) → IsCompleteAnd r P → P spans
found_complete r spans P e h = let at : Answer → Type 0 = λ r. IsCompleteAnd r P in subst at e h

found_partial : (r : Answer) (P : RequestSpans → Type 0) → r ≡ Ok Partial → IsCompleteAnd r P → ⊥
found_partial r P e h = let at : Answer → Type 0 = λ r. IsCompleteAnd r P in subst at e h

found_err : (r : Answer) (x : Error) (P : RequestSpans → Type 0) → r ≡ Err x → IsCompleteAnd r P → ⊥
found_err r x P e h = let at : Answer → Type 0 = λ r. IsCompleteAnd r P in subst at e h

other_length : (text : List ℕ) (room : List HeaderSpan) (spans : RequestSpans) (h : RequestHead) → ReadsRequest text h []
    → IsRequestAt text room spans h → spans.len ≡ length text
other_length text room spans h reads at = at.len ∙ text_length text h reads

in_text : (text : List ℕ) (room : List HeaderSpan) (spans : RequestSpans) → past_breaks text ≡ text → spans.len ≡ length text
    → IsRequestOf text room spans → IsRequestWithin text room spans → IsRequestIn text room spans
in_text text room spans clean whole of within =
    let none : drop spans.len text ≡ [] = drop_all spans.len text (omega arith) in
    let reads = subst (λ (rest : List ℕ). ReadsRequest text of.0 rest) none of.1.reads in
    record { head = of.0; is = request_found text of.0 clean reads; at = of.1; within = within; whole = whole }

pub returns-then-spans-text-clause-none : goal.returns-then-spans-text-clause-none
returns-then-spans-text-clause-none c h reads =
    let is = c.in-Ok-Complete.is ∙ ap Ok c.in-Ok-Complete.field-0-is in
    lt_of_not-le (λ fits.
    c.if-spans-text.true (other_length c.args.text.now c.parse_request.new.headers c.in-Ok-Complete.spans h reads
    (found_complete c.parse_request.result c.in-Ok-Complete.spans (λ spans. IsRequestAt c.args.text.now c.parse_request.new.headers spans h) is
    (c.parse_request.ensures.found h [] reads fits))))

pub returns-else-spans-text-clause-some : goal.returns-else-spans-text-clause-some
returns-else-spans-text-clause-some c =
    let is = c.in-Ok-Complete.is ∙ ap Ok c.in-Ok-Complete.field-0-is in
    let spans = c.in-Ok-Complete.spans in
    let room = c.parse_request.new.headers in
    let text = c.args.text.now in
    in_text text room spans c.requires c.if-spans-text.false
    (at_complete c.parse_request.result spans (λ spans. IsRequestOf text room spans) is c.parse_request.ensures.complete)
    (at_complete c.parse_request.result spans (λ spans. IsRequestWithin text room spans) is c.parse_request.ensures.within)

pub returns-in-Ok-Partial-clause-none : goal.returns-in-Ok-Partial-clause-none
returns-in-Ok-Partial-clause-none c h reads =
    let is = c.in-Ok-Partial.is ∙ ap Ok c.in-Ok-Partial.field-0-is in
    lt_of_not-le (λ fits.
    found_partial c.parse_request.result (λ spans. IsRequestAt c.args.text.now c.parse_request.new.headers spans h) is
    (c.parse_request.ensures.found h [] reads fits))

pub returns-in-Err-clause-none : goal.returns-in-Err-clause-none
returns-in-Err-clause-none c h reads =
    lt_of_not-le (λ fits.
    found_err c.parse_request.result c.in-Err.field-0 (λ spans. IsRequestAt c.args.text.now c.parse_request.new.headers spans h) c.in-Err.is
    (c.parse_request.ensures.found h [] reads fits))
