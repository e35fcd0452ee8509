use Rattle.std.proofs.Common.{◌≡◌, ◌+◌, ◌-◌, ◌≤◌, ◌++◌, ℕ, List, length, take, drop, Result, Ok, sym, ap, ◌∙◌, subst, arith}
use Rattle.rs_reply.specs.declared.reply.Chunk.{Chunk}
use Rattle.rs_reply.specs.Replies.{IsChunkIn, chunks_from}
use Rattle.rs_reply.proofs.ReplySteps.{chunks_fault, chunks_last, chunks_next}
use Rattle.rs_reply.proofs.reply.chunked_body.Goals as goal

pub returns-in-Err : goal.returns-in-Err
returns-in-Err c =
    sym (chunks_fault c.args.bytes.now c.loop-place.body.items c.loop-place.at c.in-Err.place (sym c.chunk_at.ensures.found ∙ c.in-Err.is)) ∙ c.loop-place.invariant.same

pub returns-then-chunk-eq0 : goal.returns-then-chunk-eq0
returns-then-chunk-eq0 c =
    ap (λ (b : List ℕ). Ok (b, c.in-Ok.chunk.end)) c.of.ensures.bytes
    ∙ sym (chunks_last c.args.bytes.now c.loop-place.body.items c.loop-place.at c.in-Ok.chunk (sym c.chunk_at.ensures.found ∙ c.in-Ok.is) c.if-chunk-eq0.true)
    ∙ c.loop-place.invariant.same

ends_within : (bytes : List ℕ) (at : ℕ) (r : Result Chunk ℕ) (k : Chunk) → r ≡ Ok k → IsChunkIn bytes at r → k.end ≤ length bytes
ends_within bytes at r k is within = (subst (IsChunkIn bytes at) is within).2

-- the part from one place to the other
part : (bytes body new : List ℕ) (line size : ℕ) → new ≡ body ++ take (line + size - line) (drop line bytes) → new ≡ body ++ take size (drop line bytes)
part bytes body new line size e = let same : line + size - line ≡ size = omega arith in e ∙ ap (λ n. body ++ take n (drop line bytes)) same

pub loop-place-preserved : goal.loop-place-preserved
loop-place-preserved c =
    let bytes = c.args.bytes.now in
    let k = c.in-Ok.chunk in
    let body = part bytes c.loop-place.body.items c.extend_from_slice.new.self.items k.line k.size c.in_ok-extend_from_slice-in-Ok.ensures.items in
    record {
      inside = ends_within bytes c.loop-place.at c.chunk_at.result k c.in-Ok.is c.chunk_at.ensures.within;
      same = ap (λ (xs : List ℕ). chunks_from bytes xs k.end) body
          ∙ sym (chunks_next bytes c.loop-place.body.items c.loop-place.at k c.loop-place.invariant.inside (sym c.chunk_at.ensures.found ∙ c.in-Ok.is) c.if-chunk-eq0.false)
          ∙ c.loop-place.invariant.same;
    }
