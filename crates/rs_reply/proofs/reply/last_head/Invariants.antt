use Rattle.std.proofs.Common.{◌≡◌, ◌≤◌, ◌-◌, length}
use Rattle.rs_reply.specs.Replies.{last_head}
use Rattle.rs_reply.proofs.reply.last_head.Given as goal

abbrev pub invariant-loop-place : goal.invariant-loop-place
invariant-loop-place l = record {
  inside : l.at ≤ length l.bytes;
  same : last_head l.bytes l.at ≡ last_head l.bytes 0;
}

abbrev pub decreases-loop-place : goal.decreases-loop-place
decreases-loop-place l = length l.bytes - l.at
