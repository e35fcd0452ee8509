use Rattle.std.proofs.Common.{◌≡◌, ◌+◌, ◌-◌, ◌<◌, ◌≤◌, ℕ, Bool, List, length, take, drop, true, false, sym, ap, ◌∙◌, arith}
use Rattle.std.proofs.lemmas.List.{length-drop}
use Rattle.rs_request.specs.Bodies.{has_line_end}
use Rattle.rs_reply.proofs.ReplySteps.{rest_all, data_short, data_no_end, data_ending}
use Rattle.rs_reply.proofs.reply.data_chunk.Goals as goal

-- the length of the rest
rest_length : (bytes : List ℕ) (at : ℕ) → length (take (length bytes - at) (drop at bytes)) ≡ length bytes - at
rest_length bytes at = ap length (rest_all bytes at) ∙ length-drop at bytes

short : (bytes : List ℕ) (at : ℕ) → length (take (length bytes - at) (drop at bytes)) < 2 → length bytes - at < 2
short bytes at few = omega (arith, few, rest_length bytes at)

long : (bytes : List ℕ) (at : ℕ) → 2 ≤ length (take (length bytes - at) (drop at bytes)) → 2 ≤ length bytes - at
long bytes at some = omega (arith, some, rest_length bytes at)

ending : (bytes : List ℕ) (at : ℕ) (r t : Bool) → r ≡ has_line_end (take (length bytes - at) (drop at bytes)) → r ≡ t → has_line_end (drop at bytes) ≡ t
ending bytes at r t found is = ap has_line_end (sym (rest_all bytes at)) ∙ sym found ∙ is

pub returns-then-bytes-line-clause-found : goal.returns-then-bytes-line-clause-found
returns-then-bytes-line-clause-found c = sym (data_short c.args.bytes.now c.args.at c.args.line c.args.size c.if-bytes-line.true)

pub returns-then-left-lt2-clause-found : goal.returns-then-left-lt2-clause-found
returns-then-left-lt2-clause-found c =
    sym (data_no_end c.args.bytes.now c.args.at c.args.line c.args.size c.if-bytes-line.false (short c.args.bytes.now (c.args.line + c.args.size) c.if-left-lt2.true))

pub returns-then-not-has_line_end-clause-found : goal.returns-then-not-has_line_end-clause-found
returns-then-not-has_line_end-clause-found c =
    let after = c.args.line + c.args.size in
    sym (data_ending c.args.bytes.now c.args.at c.args.line c.args.size false c.if-bytes-line.false (long c.args.bytes.now after c.if-left-lt2.false)
    (ending c.args.bytes.now after c.has_line_end.result false c.has_line_end.ensures c.if-not-has_line_end.true))

pub returns-clause-found : goal.returns-clause-found
returns-clause-found c =
    let after = c.args.line + c.args.size in
    sym (data_ending c.args.bytes.now c.args.at c.args.line c.args.size true c.if-bytes-line.false (long c.args.bytes.now after c.if-left-lt2.false)
    (ending c.args.bytes.now after c.has_line_end.result true c.has_line_end.ensures c.if-not-has_line_end.false))
