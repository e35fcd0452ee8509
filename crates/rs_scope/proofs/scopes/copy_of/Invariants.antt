use Rattle.std.proofs.Common.{◌≡◌, take}
use Rattle.rs_scope.proofs.scopes.copy_of.Given as goal

abbrev pub invariant-loop-scope : goal.invariant-loop-scope
invariant-loop-scope l = l.copied.items ≡ take l.scope-index l.scopes
