use Rattle.std.proofs.Common.{◌≡◌, ◌≤◌, ◌-◌, [], length}
use Rattle.rs_reply.specs.Replies.{chunks_from}
use Rattle.rs_reply.proofs.reply.chunked_body.Given as goal

abbrev pub invariant-loop-place : goal.invariant-loop-place
invariant-loop-place l = record {
  inside : l.at ≤ length l.bytes;
  same : chunks_from l.bytes l.body.items l.at ≡ chunks_from l.bytes [] l.from;
}

abbrev pub decreases-loop-place : goal.decreases-loop-place
decreases-loop-place l = length l.bytes - l.at
