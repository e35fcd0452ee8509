use Rattle.std.proofs.Common.{sym, ap, ◌∙◌}
use Rattle.std.specs.Prelude.{find, option_copied}
use Rattle.std.specs.Map.{keys_of}
use Rattle.std.specs.Range.Bound.{bound_map}
use Rattle.rs_cache.specs.Asked.{next_pending_of}
use Rattle.rs_cache.specs.Firsts.{is_started}
use Rattle.rs_cache.specs.States.{State}
use Rattle.rs_cache.proofs.ScanLemmas.{next-some, next-none}
use Rattle.rs_cache.proofs.client.Client.next_pending.Goals as goal

pub returns-in-Some : goal.returns-in-Some
returns-in-Some c =
    let es = c.self.inside.pending.entries in
    let there = next-some (bound_map (λ p. p.now) c.start_after.result) es (c.in-Some.path.now, c.in-Some.field-0-1.now) c.next.new.self
    (sym (c.range.ensures.between tt) ∙ c.in-Some.ensures.steps) in
    record {
      next = sym (sym (ap (λ (s : State). next_pending_of s (option_copied c.args.after)) c.self.view_is)
          ∙ ap (λ b. find (is_started b) (keys_of es)) (sym c.start_after.ensures.start) ∙ there);
    }

pub returns-in-None : goal.returns-in-None
returns-in-None c =
    let es = c.self.inside.pending.entries in
    let there = next-none (bound_map (λ p. p.now) c.start_after.result) es (sym (c.range.ensures.between tt) ∙ c.in-None.ensures.steps.0) in
    record {
      next = sym (sym (ap (λ (s : State). next_pending_of s (option_copied c.args.after)) c.self.view_is)
          ∙ ap (λ b. find (is_started b) (keys_of es)) (sym c.start_after.ensures.start) ∙ there);
    }
