-- The folders that scopes reach, without those below them.
use Rattle.std.specs.Prelude.{Bool, true, false, ◌&&◌, ◌||◌, List, [], ◌∷◌, if◌then◌else◌}
use Rattle.std.specs.List.{list_any, list_all}
use Rattle.std.specs.declared.cmp.Ordering.{Ordering}
use Rattle.std.specs.declared.cmp.Ordering.TheVariants.{Less, Equal, Greater}
use Rattle.std.specs.Ordering.{is_lt}
use Rattle.rs_path.specs.Paths.{Path, folder_at, same_path, path_cmp}
use Rattle.rs_scope.specs.declared.scope.Reach.{Reach}
use Rattle.rs_scope.specs.declared.scope.Reach.TheVariants.{Module, Star}
use Rattle.rs_scope.specs.declared.scope.Scope.{Scope}
use Rattle.rs_scope.specs.Reach.{module_folder, public_folder}

abbrev pub is_all : Reach → Bool
is_all (Module name) = false
is_all Star = true

-- the scope is a star's
abbrev pub is_star : Scope → Bool
is_star scope = is_all scope.reach

-- a root before, in place of or behind another one
abbrev pub placed_root : Ordering → Path → Path → List Path → List Path → List Path
placed_root Less root other rest behind = root ∷ other ∷ rest
placed_root Equal root other rest behind = other ∷ rest
placed_root Greater root other rest behind = other ∷ behind

-- the ascending roots and one more in its place, unless it is there
abbrev pub with_root : Path → List Path → List Path
with_root root [] = root ∷ []
with_root root (other ∷ rest) = placed_root (path_cmp root other) root other rest (with_root root rest)

-- the roots and the two folders of a module
abbrev pub with_reach : List Path → Reach → List Path
with_reach roots (Module name) = with_root (public_folder name) (with_root (module_folder name) roots)
with_reach roots Star = roots

-- the roots and the folders of each scope's module
abbrev pub with_modules : List Path → List Scope → List Path
with_modules roots [] = roots
with_modules roots (scope ∷ scopes) = with_modules (with_reach roots scope.reach) scopes

-- `/` alone where there is a star; else the two folders of each module, each once, in byte order
abbrev pub roots_of : List Scope → List Path
roots_of scopes = if list_any is_star scopes then folder_at [] ∷ [] else with_modules [] scopes

-- each path is greater than those before it
abbrev pub are_ascending : List Path → Bool
are_ascending [] = true
are_ascending (path ∷ paths) = list_all (λ other. is_lt (path_cmp path other)) paths && are_ascending paths

-- the path is one of the two folders of the module
abbrev pub is_root_by : Reach → Path → Bool
is_root_by (Module name) path = same_path path (public_folder name) || same_path path (module_folder name)
is_root_by Star path = same_path path (folder_at [])
