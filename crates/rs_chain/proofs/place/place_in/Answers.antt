-- Each call of the closure compares one child.
use Rattle.std.proofs.Common.{◌≡◌, ℕ, rules}
use Rattle.std.proofs.lemmas.Fn.{always_returns_same}
use Rattle.rs_path.specs.declared.child.Child.{Child}
use Rattle.rs_path.specs.Children.{child_cmp}
use Rattle.rs_chain.specs.Nodes.{node_child}
use Rattle.rs_chain.proofs.place.place_in.Goals as goal

pub returns-clause-place : goal.returns-clause-place
returns-clause-place c =
    let child : Child = record { name = c.args.name.now; folder = c.args.folder } in
    c.binary_search_by.ensures.position (λ key. child_cmp (node_child c.args.nodes.now key) child)
    (always_returns_same _ (λ a r. r ≡ child_cmp (node_child c.args.nodes.now a.0.now) child) _ (λ a r next called. search rules))
