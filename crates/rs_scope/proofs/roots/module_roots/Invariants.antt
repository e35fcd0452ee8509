use Rattle.std.proofs.Common.{◌≡◌, [], drop}
use Rattle.rs_scope.specs.Roots.{with_modules}
use Rattle.rs_scope.proofs.roots.module_roots.Given as goal

abbrev pub invariant-loop-scope : goal.invariant-loop-scope
invariant-loop-scope l = with_modules l.roots.items (drop l.scope-index l.scopes) ≡ with_modules [] l.scopes
