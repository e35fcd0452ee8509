use Rattle.std.proofs.Common.{◌≡◌, ◌+◌, ◌-◌, ℕ, List, take, drop, length, Result, Ok, Err, sym, ap, ◌∙◌, subst, arith}
use Rattle.std.proofs.lemmas.List.{length-take, length-drop}
use Rattle.std.specs.Prelude.{IfOk}
use Rattle.rs_reply.specs.declared.reply.ReplyHead.{ReplyHead}
use Rattle.rs_request.specs.declared.search.Spot.TheVariants.{Before}
use Rattle.rs_request.specs.Limits.{max_head}
use Rattle.rs_request.specs.Lines.{past_breaks}
use Rattle.rs_reply.specs.Replies.{judged_reply, first_byte, IsHeadIn}
use Rattle.rs_reply.proofs.ReplySteps.{rest_all, sought_front, head_short, head_full, head_whole, head_in}
use Rattle.rs_reply.proofs.reply.head_at.Goals as goal

pub returns-then-rest-lt-MAX_HEAD-clause-found : goal.returns-then-rest-lt-MAX_HEAD-clause-found
returns-then-rest-lt-MAX_HEAD-clause-found c =
    let left = take max_head (drop c.args.at c.args.bytes.now) in
    let found = sought_front Before c.window-window.result.now left c.from-search.result c.seek.result (c.window-window.ensures.front ∙ ap (take max_head) (rest_all c.args.bytes.now c.args.at)) c.from-search.ensures c.seek.ensures.found ∙ c.in_default.is in
    sym (head_short c.args.bytes.now c.args.at found (omega (arith, c.if-rest-lt-MAX_HEAD.true, length-drop c.args.at c.args.bytes.now, length-take (length c.args.bytes.now - c.args.at) (drop c.args.at c.args.bytes.now))))

pub returns-in_default-clause-found : goal.returns-in_default-clause-found
returns-in_default-clause-found c =
    let left = take max_head (drop c.args.at c.args.bytes.now) in
    let found = sought_front Before c.window-window.result.now left c.from-search.result c.seek.result (c.window-window.ensures.front ∙ ap (take max_head) (rest_all c.args.bytes.now c.args.at)) c.from-search.ensures c.seek.ensures.found ∙ c.in_default.is in
    ap Err c.first_byte-place.ensures ∙ sym (head_full c.args.bytes.now c.args.at found (omega (arith, c.if-rest-lt-MAX_HEAD.false, length-drop c.args.at c.args.bytes.now, length-take (length c.args.bytes.now - c.args.at) (drop c.args.at c.args.bytes.now))))

ok_by : {E : Type 0} (r : Result (Result ReplyHead ℕ) E) (a b : Result ReplyHead ℕ) → a ≡ b → IfOk r (λ x. x ≡ a) → IfOk r (λ x. x ≡ b)
ok_by r a b e h = subst (λ (y : Result ReplyHead ℕ). IfOk r (λ x. x ≡ y)) e h

ok_in : {E : Type 0} (r : Result (Result ReplyHead ℕ) E) (bytes : List ℕ) (at : ℕ) (a : Result ReplyHead ℕ) → IsHeadIn bytes at a → IfOk r (λ x. x ≡ a) → IfOk r (IsHeadIn bytes at)
ok_in (Ok x) bytes at a within h = subst (IsHeadIn bytes at) (sym h) within
ok_in (Err e) bytes at a within h = h

pub returns-clause-found : goal.returns-clause-found
returns-clause-found c =
    let bytes = c.args.bytes.now in
    let n = c.in-Some.count in
    let left = take max_head (drop c.args.at bytes) in
    let found = sought_front Before c.window-window.result.now left c.from-search.result c.seek.result (c.window-window.ensures.front ∙ ap (take max_head) (rest_all c.args.bytes.now c.args.at)) c.from-search.ensures c.seek.ensures.found ∙ c.in-Some.is in
    let is = ap (λ (place : ℕ). judged_reply place (c.args.at + n) c.past_breaks.result.now) c.first_byte-place.ensures ∙ ap (judged_reply (first_byte bytes c.args.at) (c.args.at + n)) (c.past_breaks.ensures.value ∙ ap (λ (xs : List ℕ). past_breaks (take n xs)) (rest_all bytes c.args.at)) ∙ sym (head_whole bytes c.args.at n found) in
    ok_by c.read_head.result _ _ is c.read_head.ensures

pub returns-clause-within : goal.returns-clause-within
returns-clause-within c =
    let bytes = c.args.bytes.now in
    let n = c.in-Some.count in
    let left = take max_head (drop c.args.at bytes) in
    let found = sought_front Before c.window-window.result.now left c.from-search.result c.seek.result (c.window-window.ensures.front ∙ ap (take max_head) (rest_all c.args.bytes.now c.args.at)) c.from-search.ensures c.seek.ensures.found ∙ c.in-Some.is in
    let is = ap (λ (place : ℕ). judged_reply place (c.args.at + n) c.past_breaks.result.now) c.first_byte-place.ensures ∙ ap (judged_reply (first_byte bytes c.args.at) (c.args.at + n)) (c.past_breaks.ensures.value ∙ ap (λ (xs : List ℕ). past_breaks (take n xs)) (rest_all bytes c.args.at)) ∙ sym (head_whole bytes c.args.at n found) in
    ok_in c.read_head.result bytes c.args.at _ (head_in bytes c.args.at c.requires) (ok_by c.read_head.result _ _ is c.read_head.ensures)
