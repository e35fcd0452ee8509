use Rattle.std.proofs.Common.{◌≡◌, ◌≤◌, ℕ, List, length, Result, Ok, sym, ◌∙◌, subst}
use Rattle.rs_reply.specs.declared.reply.ReplyHead.{ReplyHead}
use Rattle.rs_reply.specs.Replies.{IsHeadIn}
use Rattle.rs_reply.proofs.ReplySteps.{last_fault, last_found, last_next}
use Rattle.rs_reply.proofs.reply.last_head.Goals as goal

pub returns-in-Err-clause-found : goal.returns-in-Err-clause-found
returns-in-Err-clause-found c =
    sym (last_fault c.args.bytes.now c.loop-place.at c.in-Err.place (sym c.in_ok-place.ensures.found ∙ c.in-Err.is)) ∙ c.loop-place.invariant.same

pub returns-then-head-ne1-clause-found : goal.returns-then-head-ne1-clause-found
returns-then-head-ne1-clause-found c =
    sym (last_found c.args.bytes.now c.loop-place.at c.in-Ok.head (sym c.in_ok-place.ensures.found ∙ c.in-Ok.is) c.if-head-ne1.true) ∙ c.loop-place.invariant.same

ends_within : (bytes : List ℕ) (at : ℕ) (r : Result ReplyHead ℕ) (h : ReplyHead) → r ≡ Ok h → IsHeadIn bytes at r → h.end ≤ length bytes
ends_within bytes at r h is within = (subst (IsHeadIn bytes at) is within).1

pub loop-place-preserved : goal.loop-place-preserved
loop-place-preserved c = record {
  inside = ends_within c.args.bytes.now c.loop-place.at c.in_ok-place.field-0 c.in-Ok.head c.in-Ok.is c.in_ok-place.ensures.within;
  same = sym (last_next c.args.bytes.now c.loop-place.at c.in-Ok.head c.loop-place.invariant.inside (sym c.in_ok-place.ensures.found ∙ c.in-Ok.is) c.if-head-ne1.false)
      ∙ c.loop-place.invariant.same;
}
