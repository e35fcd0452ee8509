use Rattle.std.proofs.Common.{◌≡◌, ℕ, ◌-◌, ◌^◌, ◌<◌, min, arith, sym, ap, ◌∙◌}
use Rattle.rs_rules.specs.Documents.{live_in}
use Rattle.rs_rules.specs.Contents.{Contents}
use Rattle.rs_plain.proofs.plain_tree.PlainTreeTree.live.Goals as goal

whole : (n : ℕ) → n < 2 ^ 64 → min n (2 ^ 64 - 1) ≡ n
whole n small = omega (arith, small)

pub returns : goal.returns
returns c = record {
  live = λ w s.
      c.live_in.ensures.live ∙ ap (λ ds. min (live_in ds) (2 ^ 64 - 1)) c.as_slice.ensures.value
      ∙ whole (live_in c.args.self.now.docs.items) s.0.live
      ∙ sym (ap (λ (v : Contents). live_in v.docs) s.0.same);
}
