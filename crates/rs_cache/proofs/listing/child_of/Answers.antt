use Rattle.std.proofs.Common.{◌≡◌, ◌+◌, ℕ, Bool, ◌||◌, nat_lt, List, length, get_or, arith, sym, ap, ◌∙◌}
use Rattle.rs_cache.proofs.ListLemmas.{below-longer, child-there}
use Rattle.rs_cache.proofs.listing.child_of.Goals as goal
use Rattle.rs_cache.proofs.listing.child_of.Goals.{then-is_folder, else-is_folder}

pub bounds-names-depth : goal.bounds-names-depth
bounds-names-depth c =
    let longer = below-longer c.args.folder.now c.args.path.now c.requires.below in
    let folder = ap length c.names-depth.ensures.names in
    let path = ap length c.names-names.ensures.names in
    omega (arith, longer, folder, path)

pub returns : goal.returns
returns c =
    let f = c.args.folder.now in
    let p = c.args.path.now in
    let name : List ℕ = c.in_ok-copy.field-0 in
    let named : name ≡ get_or p.names (length f.names) name =
    c.in_ok-copy.ensures.same ∙ c.index-names-depth.is
    ∙ ap (λ (d : List ℕ). get_or c.names-names.result.now (length c.names-depth.result.now) d) (sym c.in_ok-copy.ensures.same)
    ∙ ap (λ (ns : List (List ℕ)). get_or ns (length c.names-depth.result.now) name) c.names-names.ensures.names
    ∙ ap (λ (ns : List (List ℕ)). get_or p.names (length ns) name) c.names-depth.ensures.names in
    let more : Bool = nat_lt (length f.names + 1) (length p.names) in
    let whole : c.if-is_folder.result ≡ (p.folder || nat_lt (length f.names + 1) (length p.names)) =
    elim c.if-is_folder.branch [
      | then-is_folder w ↦ w.result-is ∙ w.if-is_folder.true
          ∙ sym (ap (λ (b : Bool). b || more) (sym c.is_folder.ensures.folder ∙ w.if-is_folder.true))
      | else-is_folder w ↦ w.result-is
          ∙ ap (λ (ns : List (List ℕ)). nat_lt (length ns + 1) (length c.names-names.result.now)) c.names-depth.ensures.names
          ∙ ap (λ (ns : List (List ℕ)). nat_lt (length f.names + 1) (length ns)) c.names-names.ensures.names
          ∙ sym (ap (λ (b : Bool). b || more) (sym c.is_folder.ensures.folder ∙ w.if-is_folder.false))
    ] in
    record { child = child-there f p name c.if-is_folder.result c.requires.below named whole }
