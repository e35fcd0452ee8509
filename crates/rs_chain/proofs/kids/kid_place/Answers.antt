-- A child is found by its own name.
use Rattle.std.proofs.Common.{◌≡◌, ℕ, List, [], get_or, find, Option, Some, None, Ok, Err, sym, ap, ◌∙◌}
use Rattle.std.specs.Option.{option_map_or}
use Rattle.rs_path.specs.declared.child.Child.{Child}
use Rattle.rs_path.specs.Children.{same_child}
use Rattle.rs_chain.specs.declared.node.Node.{Node}
use Rattle.rs_chain.specs.Nodes.{no_child, node_child, node_kids}
use Rattle.rs_chain.specs.Walks.{child_in}
use Rattle.rs_chain.proofs.InLemmas.{parent_kid}
use Rattle.rs_chain.proofs.PlaceLemmas.{searched_in}
use Rattle.rs_chain.proofs.KidLemmas.{kid_itself}
use Rattle.rs_chain.proofs.kids.kid_place.Goals as goal

some_key : (a b : ℕ) → Some a ≡ Some b → a ≡ b
some_key a b same = cc

pub returns-in-Ok-clause-place : goal.returns-in-Ok-clause-place
returns-in-Ok-clause-place c =
    let s = c.args.nodes.now in
    let f : ℕ = c.args.folder in
    let listed = c.requires.listed in
    let kids : List ℕ = c.as_slice-kids.result.now in
    let kids_is : node_kids s f ≡ kids = ap (λ o. option_map_or (λ (x : Node). x.kids.items) o []) c.index.ensures ∙ sym c.as_slice-kids.ensures.value in
    let name : node_child s c.args.key ≡ c.index-2.result.now.child = ap (λ o. option_map_or (λ (x : Node). x.child) o no_child) c.index-2.ensures in
    let found : child_in s f c.index-2.result.now.child ≡ Some c.args.key =
    ap (child_in s f) (sym name) ∙ kid_itself s listed.0 f c.args.key listed.1 (parent_kid listed.1 f c.args.key c.requires.child) in
    ap (λ (l : List ℕ). get_or l c.in-Ok.place 0) kids_is
    ∙ some_key (get_or kids c.in-Ok.place 0) c.args.key
    (searched_in (node_child s) c.index-2.result.now.child (node_kids s f) kids (Ok c.in-Ok.place) kids_is (listed.1.sorted f) c.in-Ok.ensures.bound c.in-Ok.ensures.place ∙ found)

pub returns-in-Err : goal.returns-in-Err
returns-in-Err c =
    let s = c.args.nodes.now in
    let f : ℕ = c.args.folder in
    let listed = c.requires.listed in
    let kids : List ℕ = c.as_slice-kids.result.now in
    let kids_is : node_kids s f ≡ kids = ap (λ o. option_map_or (λ (x : Node). x.kids.items) o []) c.index.ensures ∙ sym c.as_slice-kids.ensures.value in
    let name : node_child s c.args.key ≡ c.index-2.result.now.child = ap (λ o. option_map_or (λ (x : Node). x.child) o no_child) c.index-2.ensures in
    let found : child_in s f c.index-2.result.now.child ≡ Some c.args.key =
    ap (child_in s f) (sym name) ∙ kid_itself s listed.0 f c.args.key listed.1 (parent_kid listed.1 f c.args.key c.requires.child) in
    let clash : None ≡ Some c.args.key =
    searched_in (node_child s) c.index-2.result.now.child (node_kids s f) kids (Err c.in-Err.place) kids_is (listed.1.sorted f) c.in-Err.ensures.bound c.in-Err.ensures.place ∙ found in
    absurd (cc)
