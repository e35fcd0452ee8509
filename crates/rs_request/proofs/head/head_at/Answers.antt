use Rattle.std.proofs.Common.{◌≡◌, ℕ, List, take, Option, Some, Err, sym, ap, ◌∙◌, subst, arith}
use Rattle.std.proofs.lemmas.List.{take-take, length-take}
use Rattle.rs_request.specs.declared.search.Search.{Search}
use Rattle.rs_request.specs.declared.search.Spot.{Spot}
use Rattle.rs_request.specs.declared.search.Spot.TheVariants.{Before}
use Rattle.rs_request.specs.Limits.{max_head}
use Rattle.rs_request.specs.Lines.{first_empty_line, past_breaks}
use Rattle.rs_request.specs.Sought.{IsSought}
use Rattle.rs_request.specs.RequestHeads.{long_head, with_length, judged_request}
use Rattle.rs_request.proofs.LinesLemmas.{empty_line_is_found}
use Rattle.rs_request.proofs.HeadLemmas.{head_more, head_long, head_text}
use Rattle.rs_request.proofs.head.head_at.Goals as goal

-- the search's answer is about the bytes of the window
answered : (window bytes : List ℕ) (search : Search) (r : Option ℕ) → window ≡ bytes → IsSought Before search bytes
    → ((start : Spot) → IsSought start search window → r ≡ first_empty_line start window) → first_empty_line Before bytes ≡ r
answered window bytes search r e sought found =
    ap (first_empty_line Before) (sym e) ∙ sym (found Before (subst (IsSought Before search) (sym e) sought))

-- the text of the head
text_of : (window bytes : List ℕ) (n : ℕ) → window ≡ take max_head bytes → first_empty_line Before (take max_head bytes) ≡ Some n → take n window ≡ take n bytes
text_of window bytes n e found =
    let within = (empty_line_is_found Before (take max_head bytes) n found).within in
    ap (take n) e ∙ take-take n max_head bytes (omega (arith, length-take max_head bytes))

pub returns-then-bytes-lt-MAX_HEAD-clause-found : goal.returns-then-bytes-lt-MAX_HEAD-clause-found
returns-then-bytes-lt-MAX_HEAD-clause-found c sought =
    let bytes = c.args.bytes.now in
    let found = answered c.window-window.result.now (take max_head bytes) c.args.search.now c.seek.result c.window-window.ensures.front sought c.seek.ensures.found ∙ c.in_default.is in
    sym (head_more c.args.place bytes found c.if-bytes-lt-MAX_HEAD.true)

pub returns-in_default-clause-found : goal.returns-in_default-clause-found
returns-in_default-clause-found c sought =
    let bytes = c.args.bytes.now in
    let found = answered c.window-window.result.now (take max_head bytes) c.args.search.now c.seek.result c.window-window.ensures.front sought c.seek.ensures.found ∙ c.in_default.is in
    ap (λ why. Some (Err why)) (c.long_head.ensures ∙ ap long_head c.window-window.ensures.front) ∙ sym (head_long c.args.place bytes found c.if-bytes-lt-MAX_HEAD.false)

pub returns-in-Ok-clause-found : goal.returns-in-Ok-clause-found
returns-in-Ok-clause-found c sought =
    let bytes = c.args.bytes.now in
    let n = c.in-Some.count in
    let found = answered c.window-window.result.now (take max_head bytes) c.args.search.now c.seek.result c.window-window.ensures.front sought c.seek.ensures.found ∙ c.in-Some.is in
    let text = c.past_breaks.ensures.value ∙ ap past_breaks (text_of c.window-window.result.now bytes n c.window-window.ensures.front found) in
    let is = ap (judged_request c.args.place) (sym text) ∙ sym c.in_ok-begun.ensures ∙ c.in-Ok.is in
    sym (head_text c.args.place bytes n found ∙ ap (λ r. Some (with_length n r)) is)

pub returns-in-Err-clause-found : goal.returns-in-Err-clause-found
returns-in-Err-clause-found c sought =
    let bytes = c.args.bytes.now in
    let n = c.in-Some.count in
    let found = answered c.window-window.result.now (take max_head bytes) c.args.search.now c.seek.result c.window-window.ensures.front sought c.seek.ensures.found ∙ c.in-Some.is in
    let text = c.past_breaks.ensures.value ∙ ap past_breaks (text_of c.window-window.result.now bytes n c.window-window.ensures.front found) in
    let is = ap (judged_request c.args.place) (sym text) ∙ sym c.in_ok-begun.ensures ∙ c.in-Err.is in
    sym (head_text c.args.place bytes n found ∙ ap (λ r. Some (with_length n r)) is)
