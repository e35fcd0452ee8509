use Rattle.std.proofs.Common.{◌≡◌, true, All, take}
use Rattle.rs_path.specs.declared.child.Child.{Child}
use Rattle.rs_path.specs.Names.{is_name}
use Rattle.rs_rules.specs.Contents.{paths_in}
use Rattle.rs_rules.specs.Listings.{children}
use Rattle.rs_plain.proofs.listing.children_of.Given as goal

abbrev pub invariant-loop-placed : goal.invariant-loop-placed
invariant-loop-placed l =
    (l.found.keys ≡ children l.folder (paths_in (take l.placed-index l.docs)))
    × All (λ (child : Child). is_name child.name ≡ true) l.found.keys
