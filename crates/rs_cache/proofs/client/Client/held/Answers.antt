use Rattle.std.proofs.Common.{List, map, rules, tests, ap, ◌∙◌}
use Rattle.std.specs.List.{count_by}
use Rattle.std.proofs.lemmas.Iterator.Consumers.{YieldsList-at, YieldsList-from_rest, YieldsList-from_filter, count_from_yields_List}
use Rattle.std.proofs.lemmas.List.Sums.{length-filter}
use Rattle.rs_path.specs.Paths.{Path}
use Rattle.rs_cache.specs.declared.pending.Pending.{Pending}
use Rattle.rs_cache.specs.Asked.{is_held_change}
use Rattle.rs_cache.specs.States.{State}
use Rattle.rs_cache.proofs.client.Client.held.Goals as goal

pub returns : goal.returns
returns c =
    let all : List Pending = map (λ (e : Path × Pending). e.1) c.self.inside.pending.entries in
    record {
      held = count_from_yields_List c.filter.result c.count.result c.count.ensures.ran
          (YieldsList-from_filter _ is_held_change (YieldsList-at c.filter.ensures.source (YieldsList-from_rest all c.values.ensures.rest)) c.filter.ensures.closure
          (λ x b q k. search (rules, tests)))
          ∙ length-filter is_held_change all
          ∙ ap (λ (s : State). count_by is_held_change (map (λ (e : Path × Pending). e.1) s.pending)) c.self.view_is;
    }
