use Rattle.std.proofs.Common.{Some, sym, ap, ◌∙◌}
use Rattle.std.specs.declared.ops.Bound.TheVariants.{Excluded}
use Rattle.rs_path.specs.Paths.{Path}
use Rattle.rs_cache.specs.Firsts.{first_shown}
use Rattle.rs_cache.proofs.ScanLemmas.{below-first}
use Rattle.rs_cache.proofs.client.Client.viewed_below.Goals as goal

pub returns-in-Some : goal.returns-in-Some
returns-in-Some c =
    let s = c.args.self.now in
    record {
      below = ap (λ (p : Path). Some p) c.in_ok-copy-in-Some.ensures.same ∙ c.in-Some.ensures.first
          ∙ ap (λ (f : Path). first_shown s f (Excluded f)) c.in_ok-folder.ensures.folder ∙ sym (below-first s c.args.path.now);
    }

pub returns : goal.returns
returns c =
    let s = c.args.self.now in
    record {
      below = c.in-None.ensures.first
          ∙ ap (λ (f : Path). first_shown s f (Excluded f)) c.in_ok-folder.ensures.folder ∙ sym (below-first s c.args.path.now);
    }
