-- When scopes are equal.
use Rattle.std.specs.Prelude.{ℕ, Bool, List, Option, Some, None}
use Rattle.std.specs.Option.{option_eq}
use Rattle.std.specs.Ordering.{on, eq_of_both}
use Rattle.std.specs.Str.{bytes_eq}
use Rattle.std.specs.Cmp.{IsEquivalence, bool_eq_equiv}
use Rattle.std.specs.Cmp.Lexicographic.{pointwise, lists_equiv, options_equiv}
use Rattle.std.proofs.lemmas.Cmp.{nat_list_eq_equiv, on_equiv, and_equiv}
use mathlib.Core.Bool.{beq}
use Rattle.rs_scope.specs.declared.scope.Reach.{Reach}
use Rattle.rs_scope.specs.declared.scope.Reach.TheVariants.{Module, Star}
use Rattle.rs_scope.specs.declared.scope.Scope.{Scope}

-- the module, or None for all
abbrev pub module_of : Reach → Option (List ℕ)
module_of (Module name) = Some name
module_of Star = None

-- the same module, or both all
abbrev pub same_reach : Reach → Reach → Bool
same_reach = on module_of (option_eq bytes_eq)

pub same_reach_equiv : IsEquivalence same_reach
same_reach_equiv = on_equiv module_of (options_equiv nat_list_eq_equiv)

-- the same reach, and both may write or neither
abbrev pub same_scope : Scope → Scope → Bool
same_scope = eq_of_both (on (λ (s : Scope). s.reach) same_reach) (on (λ (s : Scope). s.write) beq)

pub same_scope_equiv : IsEquivalence same_scope
same_scope_equiv = and_equiv (on_equiv (λ (s : Scope). s.reach) same_reach_equiv) (on_equiv (λ (s : Scope). s.write) bool_eq_equiv)

-- the same scopes in the same order
abbrev pub same_scopes : List Scope → List Scope → Bool
same_scopes = pointwise same_scope

pub same_scopes_equiv : IsEquivalence same_scopes
same_scopes_equiv = lists_equiv same_scope_equiv
