use Rattle.std.proofs.Common.{◌≡◌, ◌++◌, List, map}
use Rattle.rs_path.specs.declared.child.Child.{Child}
use Rattle.rs_rules.specs.Listings.{item_of}
use Rattle.rs_plain.specs.PlainTrees.{contents_in}
use Rattle.rs_plain.proofs.listing.items_in.Given as goal

abbrev pub invariant-loop-child : goal.invariant-loop-child
invariant-loop-child l =
    (done : List Child) × (l.initial.child-iterator ≡ done ++ l.child-iterator) × (l.items ≡ map (item_of (contents_in l.docs l.writes) l.folder) done)
