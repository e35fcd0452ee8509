use Rattle.std.proofs.Common.{◌≡◌, ◌-◌, ℕ, List, length, get_or, sym, ap, ◌∙◌}
use Rattle.std.proofs.lemmas.Result.{IfOk-weaker}
use Rattle.rs_cache.proofs.TwinLemmas.{twin-is}
use Rattle.rs_cache.proofs.clash.twin.Goals as goal

pub returns : goal.returns
returns c =
    let last : List ℕ = c.index-names-names.result in
    let is : last ≡ get_or c.args.path.now.names (length c.args.path.now.names - 1) last =
    c.index-names-names.is ∙ ap (λ (ns : List (List ℕ)). get_or ns (length ns - 1) last) c.names-names.ensures.names in
    record {
      twin = IfOk-weaker c.child.result _ _
          (λ twin same. same ∙ twin-is c.args.path.now c.in-Some.parent last c.args.folder (sym c.in_ok-parent.ensures.parent ∙ c.in-Some.is) is) c.child.ensures.child;
    }
