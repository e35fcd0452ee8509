-- Nothing is found, so the search tells where the child would stand.
use Rattle.std.proofs.Common.{◌≡◌, ℕ, List, [], get_or, Option, Some, None, Ok, Err, sym, ap, ◌∙◌}
use Rattle.std.specs.Option.{option_map_or}
use Rattle.rs_path.specs.declared.child.Child.{Child}
use Rattle.rs_chain.specs.declared.node.Node.{Node}
use Rattle.rs_chain.specs.Nodes.{node_child, node_kids}
use Rattle.rs_chain.proofs.PlaceLemmas.{searched_in, stands_at}
use Rattle.rs_chain.proofs.kids.vacancy.Goals as goal

pub returns-in-Ok : goal.returns-in-Ok
returns-in-Ok c =
    let s = c.args.nodes.now in
    let kids : List ℕ = c.as_slice-kids.result.now in
    let kids_is : node_kids s c.args.folder ≡ kids = ap (λ o. option_map_or (λ (x : Node). x.kids.items) o []) c.index.ensures ∙ sym c.as_slice-kids.ensures.value in
    let clash : Some (get_or kids c.in-Ok.place 0) ≡ None =
    searched_in (node_child s) c.args.child.now (node_kids s c.args.folder) kids (Ok c.in-Ok.place) kids_is c.requires.sorted c.in-Ok.ensures.bound c.in-Ok.ensures.place ∙ c.requires.free in
    absurd (cc)

pub returns-in-Err : goal.returns-in-Err
returns-in-Err c =
    let s = c.args.nodes.now in
    let kids : List ℕ = c.as_slice-kids.result.now in
    let kids_is : node_kids s c.args.folder ≡ kids = ap (λ o. option_map_or (λ (x : Node). x.kids.items) o []) c.index.ensures ∙ sym c.as_slice-kids.ensures.value in
    record { place = stands_at (node_child s) c.args.child.now (node_kids s c.args.folder) kids c.in-Err.place kids_is c.requires.sorted c.in-Err.ensures.bound c.in-Err.ensures.place }
