-- An empty name without a slash comes before every name.
use Rattle.std.proofs.Common.{◌≡◌, ◌<◌, ℕ, Bool, true, false, List, [], ◌∷◌, length, arith, refl, sym, ap, ◌∙◌}
use Rattle.std.specs.declared.cmp.Ordering.TheVariants.{Less}
use Rattle.std.specs.Option.{option_map_or}
use Rattle.rs_path.specs.declared.child.Child.{Child}
use Rattle.rs_path.specs.Children.{child_cmp}
use Rattle.rs_chain.specs.declared.node.Node.{Node}
use Rattle.rs_chain.specs.Nodes.{no_child}
use Rattle.rs_chain.proofs.place.compare.Goals as goal

none_first : (name : List ℕ) (folder : Bool) → 0 < length name → Less ≡ child_cmp no_child (record { name = name; folder = folder })
none_first [] folder some = absurd (omega (arith, some))
none_first (b ∷ bs) true some = refl
none_first (b ∷ bs) false some = refl

pub returns-in-None : goal.returns-in-None
returns-in-None c =
    let child : Child = record { name = c.args.name.now; folder = c.args.folder } in
    record {
      order = none_first c.args.name.now c.args.folder c.as_slice.ensures.some
          ∙ ap (λ o. child_cmp (option_map_or (λ (x : Node). x.child) o no_child) child) c.in-None.ensures;
    }

pub returns-in-Some : goal.returns-in-Some
returns-in-Some c =
    let child : Child = record { name = c.args.name.now; folder = c.args.folder } in
    record {
      order = c.cmp_name.ensures.order ∙ ap (λ o. child_cmp (option_map_or (λ (x : Node). x.child) o no_child) child) c.in-Some.ensures;
    }
