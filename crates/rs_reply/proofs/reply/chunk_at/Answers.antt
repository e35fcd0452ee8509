use Rattle.std.proofs.Common.{◌≡◌, ◌≤◌, ◌+◌, ◌-◌, ℕ, List, take, drop, length, Option, None, sym, refl, ap, ◌∙◌, arith}
use Rattle.std.proofs.lemmas.List.{length-take, length-drop}
use Rattle.rs_request.specs.Limits.{max_chunk_line}
use Rattle.rs_request.specs.Lines.{first_line}
use Rattle.rs_request.specs.ChunkTexts.{size_of}
use Rattle.rs_reply.specs.Replies.{last_chunk}
use Rattle.rs_reply.proofs.ReplySteps.{rest_all, chunk_short, chunk_full, chunk_unsized, chunk_of_data, chunk_of_none}
use Rattle.rs_reply.proofs.reply.chunk_at.Goals as goal

line_front : (window bytes : List ℕ) (r : Option ℕ) → window ≡ bytes → (0 ≤ length window → first_line (take 0 window) ≡ None → r ≡ first_line window) → first_line bytes ≡ r
line_front window bytes r e found = ap first_line (sym e) ∙ sym (found (omega arith) refl)

pub returns-then-rest-lt-MAX_CHUNK_LINE-clause-found : goal.returns-then-rest-lt-MAX_CHUNK_LINE-clause-found
returns-then-rest-lt-MAX_CHUNK_LINE-clause-found c =
    let left = take max_chunk_line (drop c.args.at c.args.bytes.now) in
    let found = line_front c.window.result.now left c.first_line.result (c.window.ensures.front ∙ ap (take max_chunk_line) (rest_all c.args.bytes.now c.args.at)) c.first_line.ensures.found ∙ c.in_default.is in
    sym (chunk_short c.args.bytes.now c.args.at found (omega (arith, c.if-rest-lt-MAX_CHUNK_LINE.true, length-drop c.args.at c.args.bytes.now, length-take (length c.args.bytes.now - c.args.at) (drop c.args.at c.args.bytes.now))))

pub returns-in_default-clause-found : goal.returns-in_default-clause-found
returns-in_default-clause-found c =
    let left = take max_chunk_line (drop c.args.at c.args.bytes.now) in
    let found = line_front c.window.result.now left c.first_line.result (c.window.ensures.front ∙ ap (take max_chunk_line) (rest_all c.args.bytes.now c.args.at)) c.first_line.ensures.found ∙ c.in_default.is in
    sym (chunk_full c.args.bytes.now c.args.at found (omega (arith, c.if-rest-lt-MAX_CHUNK_LINE.false, length-drop c.args.at c.args.bytes.now, length-take (length c.args.bytes.now - c.args.at) (drop c.args.at c.args.bytes.now))))

pub returns-in_default-size_of-clause-found : goal.returns-in_default-size_of-clause-found
returns-in_default-size_of-clause-found c =
    let left = take max_chunk_line (drop c.args.at c.args.bytes.now) in
    let found = line_front c.window.result.now left c.first_line.result (c.window.ensures.front ∙ ap (take max_chunk_line) (rest_all c.args.bytes.now c.args.at)) c.first_line.ensures.found ∙ c.in-Some.is in
    sym (chunk_unsized c.args.bytes.now c.args.at c.in-Some.count found (sym (c.size_of.ensures ∙ ap (λ (xs : List ℕ). size_of (take c.in-Some.count xs)) (rest_all c.args.bytes.now c.args.at)) ∙ c.in_default-size_of.is))

pub returns-then-size-ne0-clause-found : goal.returns-then-size-ne0-clause-found
returns-then-size-ne0-clause-found c =
    let left = take max_chunk_line (drop c.args.at c.args.bytes.now) in
    let found = line_front c.window.result.now left c.first_line.result (c.window.ensures.front ∙ ap (take max_chunk_line) (rest_all c.args.bytes.now c.args.at)) c.first_line.ensures.found ∙ c.in-Some.is in
    c.data_chunk.ensures.found
    ∙ sym (chunk_of_data c.args.bytes.now c.args.at c.in-Some.count c.in-Some-size_of.size found (sym (c.size_of.ensures ∙ ap (λ (xs : List ℕ). size_of (take c.in-Some.count xs)) (rest_all c.args.bytes.now c.args.at)) ∙ c.in-Some-size_of.is) c.if-size-ne0.true)

pub returns-in-Ok-clause-found : goal.returns-in-Ok-clause-found
returns-in-Ok-clause-found c =
    let left = take max_chunk_line (drop c.args.at c.args.bytes.now) in
    let found = line_front c.window.result.now left c.first_line.result (c.window.ensures.front ∙ ap (take max_chunk_line) (rest_all c.args.bytes.now c.args.at)) c.first_line.ensures.found ∙ c.in-Some.is in
    ap (last_chunk (c.args.at + c.in-Some.count)) (sym c.in-Ok.is ∙ c.trailer_end.ensures.found)
    ∙ sym (chunk_of_none c.args.bytes.now c.args.at c.in-Some.count c.in-Some-size_of.size found (sym (c.size_of.ensures ∙ ap (λ (xs : List ℕ). size_of (take c.in-Some.count xs)) (rest_all c.args.bytes.now c.args.at)) ∙ c.in-Some-size_of.is) c.if-size-ne0.false)

pub returns-in-Err-clause-found : goal.returns-in-Err-clause-found
returns-in-Err-clause-found c =
    let left = take max_chunk_line (drop c.args.at c.args.bytes.now) in
    let found = line_front c.window.result.now left c.first_line.result (c.window.ensures.front ∙ ap (take max_chunk_line) (rest_all c.args.bytes.now c.args.at)) c.first_line.ensures.found ∙ c.in-Some.is in
    ap (last_chunk (c.args.at + c.in-Some.count)) (sym c.in-Err.is ∙ c.trailer_end.ensures.found)
    ∙ sym (chunk_of_none c.args.bytes.now c.args.at c.in-Some.count c.in-Some-size_of.size found (sym (c.size_of.ensures ∙ ap (λ (xs : List ℕ). size_of (take c.in-Some.count xs)) (rest_all c.args.bytes.now c.args.at)) ∙ c.in-Some-size_of.is) c.if-size-ne0.false)
