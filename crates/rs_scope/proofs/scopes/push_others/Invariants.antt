use Rattle.std.proofs.Common.{◌≡◌, ◌++◌, ◌∷◌, take}
use Rattle.std.specs.List.{flat_map}
use Rattle.rs_scope.specs.Scopes.{scope_text}
use Rattle.rs_scope.proofs.scopes.push_others.Given as goal

abbrev pub invariant-loop-scope : goal.invariant-loop-scope
invariant-loop-scope l = l.out.items ≡ l.fn.out.items ++ flat_map (λ scope. 32 ∷ scope_text scope) (take l.scope-index l.scopes)
