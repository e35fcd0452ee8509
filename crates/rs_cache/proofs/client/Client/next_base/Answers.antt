use Rattle.std.proofs.Common.{sym, ap, ◌∙◌}
use Rattle.std.specs.Prelude.{option_copied}
use Rattle.std.specs.declared.ops.Bound.TheVariants.{Excluded, Unbounded}
use Rattle.std.specs.BTreeMap.Range.{entries_between}
use Rattle.rs_path.specs.Paths.{path_cmp}
use Rattle.rs_cache.specs.Asked.{next_base_of}
use Rattle.rs_cache.specs.States.{State}
use Rattle.rs_cache.proofs.ScanLemmas.{below-next, below-other, below-none}
use Rattle.rs_cache.proofs.client.Client.next_base.Goals as goal

pub returns-in-None : goal.returns-in-None
returns-in-None c =
    let es = c.self.inside.base.entries in
    let after = option_copied c.args.after in
    let is = ap (λ p. entries_between path_cmp (Excluded p) Unbounded es) (sym c.later.ensures.later) ∙ sym (c.range.ensures.between tt) ∙ c.in-None.ensures.steps.0 in
    record {
      next = sym (sym (ap (λ (s : State). next_base_of s c.args.folder.now after) c.self.view_is) ∙ below-none c.args.folder.now after es is);
    }

pub returns-then-starts_with : goal.returns-then-starts_with
returns-then-starts_with c =
    let es = c.self.inside.base.entries in
    let after = option_copied c.args.after in
    let is = ap (λ p. entries_between path_cmp (Excluded p) Unbounded es) (sym c.later.ensures.later) ∙ sym (c.range.ensures.between tt) ∙ c.in-Some.ensures.steps in
    record {
      next = sym (sym (ap (λ (s : State). next_base_of s c.args.folder.now after) c.self.view_is)
          ∙ below-next c.args.folder.now after es (c.in-Some.path.now, c.in-Some.field-0-1.now) c.next.new.self is c.starts_with.result
          (c.starts_with.ensures.below c.requires.folder) c.if-starts_with.true);
    }

pub returns-else-starts_with : goal.returns-else-starts_with
returns-else-starts_with c =
    let es = c.self.inside.base.entries in
    let after = option_copied c.args.after in
    let is = ap (λ p. entries_between path_cmp (Excluded p) Unbounded es) (sym c.later.ensures.later) ∙ sym (c.range.ensures.between tt) ∙ c.in-Some.ensures.steps in
    record {
      next = sym (sym (ap (λ (s : State). next_base_of s c.args.folder.now after) c.self.view_is)
          ∙ below-other c.args.folder.now after es (c.in-Some.path.now, c.in-Some.field-0-1.now) c.next.new.self c.range.ensures.ordered is
          (sym c.starts_with.ensures.prefix ∙ c.if-starts_with.false));
    }
