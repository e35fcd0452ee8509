use Rattle.std.proofs.Common.{◌≡◌, ◌∷◌, take, map, string_bytes}
use Rattle.std.specs.List.{flat_map}
use Rattle.rs_path.specs.Targets.{escaped}
use Rattle.rs_path.proofs.target.target_of.Given as goal

abbrev pub invariant-loop-name : goal.invariant-loop-name
invariant-loop-name l = string_bytes l.text ≡ flat_map (λ text. 47 ∷ text) (map escaped (take l.name-index l.names))
