-- Scopes: which module, or all of them, and whether they may be written. Their text.
use Rattle.std.specs.Prelude.{ℕ, Bool, true, not, ◌&&◌, nat_le, List, [], ◌∷◌, ◌++◌, length, map, codes, if◌then◌else◌}
use Rattle.std.specs.List.{list_all, join_with_byte}
use Rattle.rs_path.specs.Paths.{is_nil}
use Rattle.rs_scope.specs.declared.scope.Reach.{Reach}
use Rattle.rs_scope.specs.declared.scope.Reach.TheVariants.{Module, Star}
use Rattle.rs_scope.specs.declared.scope.Scope.{Scope}
use Rattle.rs_scope.specs.Modules.{is_module}
use Rattle.rs_scope.specs.Limits.{max_scopes}

-- a star, or the module's name
abbrev pub reach_text : Reach → List ℕ
reach_text (Module name) = name
reach_text Star = 42 ∷ []

-- the end of an item: whether what it reaches may be written
abbrev pub access_text : Bool → List ℕ
access_text write = if write then codes ":rw" else codes ":r"

-- the text of an item
abbrev pub scope_text : Scope → List ℕ
scope_text scope = reach_text scope.reach ++ access_text scope.write

-- the items in their order, joined by one space
abbrev pub scopes_text : List Scope → List ℕ
scopes_text scopes = join_with_byte 32 (map scope_text scopes)

-- a module's name is one
abbrev pub is_reach : Reach → Bool
is_reach (Module name) = is_module name
is_reach Star = true

abbrev pub is_scope : Scope → Bool
is_scope scope = is_reach scope.reach

-- at least one scope, with a text of at most 1,024 bytes
abbrev pub is_scopes : List Scope → Bool
is_scopes scopes = not (is_nil scopes) && list_all is_scope scopes && nat_le (length (scopes_text scopes)) max_scopes
