use Rattle.std.proofs.Common.{Bool, ◌&&◌, Option, option_copied, sym, ap, ◌∙◌}
use Rattle.std.specs.Prelude.{find}
use Rattle.std.specs.Map.{keys_of}
use Rattle.std.specs.declared.ops.Bound.{Bound}
use Rattle.std.specs.Range.Bound.{bound_map}
use Rattle.rs_path.specs.Paths.{Path}
use Rattle.rs_cache.specs.Firsts.{lesser_path, is_shown_below, is_started}
use Rattle.rs_cache.proofs.ScanLemmas.{shown-lesser}
use Rattle.rs_cache.proofs.client.Client.first_shown.Goals as goal

pub returns : goal.returns
returns c =
    let s = c.args.self.now in
    let folder = c.args.folder.now in
    let start : Bound Path = bound_map (λ p. p.now) c.args.start in
    let test : Path → Bool = λ q. is_started start q && is_shown_below s folder q in
    let change : Option Path = option_copied c.first_change.result in
    record {
      first = c.lesser.ensures.lesser ∙ ap (λ (o : Option Path). lesser_path o change) c.first_base.ensures.first
          ∙ ap (lesser_path (find test (keys_of s.base))) c.first_change.ensures.first
          ∙ sym (shown-lesser s folder start c.first_base.ensures.ordered c.first_change.ensures.ordered);
    }
