-- What the search finds is the one child of the name.
use Rattle.std.proofs.Common.{◌≡◌, ℕ, List, [], Ok, Err, sym, ap, ◌∙◌, find}
use Rattle.std.specs.Option.{option_map_or}
use Rattle.std.proofs.lemmas.Bool.{cond-true}
use Rattle.rs_path.specs.declared.child.Child.{Child}
use Rattle.rs_path.specs.Children.{same_child}
use Rattle.rs_rules.specs.Laws.{is_sorted}
use Rattle.rs_chain.specs.declared.node.Node.{Node}
use Rattle.rs_chain.specs.Nodes.{node_child, node_kids}
use Rattle.rs_chain.proofs.PlaceLemmas.{searched_in}
use Rattle.rs_chain.proofs.place.child_in.Goals as goal

pub returns-in-Ok : goal.returns-in-Ok
returns-in-Ok c =
    let s = c.args.nodes.now in
    let f : ℕ = c.args.folder in
    let child : Child = record { name = c.args.name.now; folder = c.args.is_folder } in
    let kids : List ℕ = c.as_slice-kids.result.now in
    let kids_is : node_kids s f ≡ kids = ap (λ o. option_map_or (λ (x : Node). x.kids.items) o []) c.index.ensures ∙ sym c.as_slice-kids.ensures.value in
    record { child = searched_in (node_child s) child (node_kids s f) kids (Ok c.in-Ok.place) kids_is c.requires.sorted c.in-Ok.ensures.bound c.in-Ok.ensures.place }

pub returns-in-Err : goal.returns-in-Err
returns-in-Err c =
    let s = c.args.nodes.now in
    let f : ℕ = c.args.folder in
    let child : Child = record { name = c.args.name.now; folder = c.args.is_folder } in
    let kids : List ℕ = c.as_slice-kids.result.now in
    let kids_is : node_kids s f ≡ kids = ap (λ o. option_map_or (λ (x : Node). x.kids.items) o []) c.index.ensures ∙ sym c.as_slice-kids.ensures.value in
    record { child = searched_in (node_child s) child (node_kids s f) kids (Err c.in-Err.field-0) kids_is c.requires.sorted c.in-Err.ensures.bound c.in-Err.ensures.place }
