-- What scopes reach, and what is read without a token (draft-dejong-remotestorage, section 9).
-- Whole names are compared, from the first name of the path on.
use Rattle.std.specs.Prelude.{ℕ, Bool, true, false, not, ◌&&◌, ◌||◌, List, [], ◌∷◌}
use Rattle.std.specs.List.{list_any}
use Rattle.std.specs.Str.{bytes_eq}
use Rattle.rs_path.specs.Paths.{Path, folder_at, same_path}
use Rattle.rs_path.specs.Below.{is_below}
use Rattle.rs_scope.specs.declared.method.Method.{Method}
use Rattle.rs_scope.specs.declared.method.Method.TheVariants.{Get, Head, Put, Delete}
use Rattle.rs_scope.specs.declared.scope.Reach.{Reach}
use Rattle.rs_scope.specs.declared.scope.Reach.TheVariants.{Module, Star}
use Rattle.rs_scope.specs.declared.scope.Scope.{Scope}
use Rattle.rs_scope.specs.Modules.{public_name}

-- Get and Head read, Put and Delete write
abbrev pub is_reading : Method → Bool
is_reading Get = true
is_reading Head = true
is_reading Put = false
is_reading Delete = false

-- the folder `/MODULE/`
abbrev pub module_folder : List ℕ → Path
module_folder name = folder_at (name ∷ [])

-- the folder `/public/MODULE/`
abbrev pub public_folder : List ℕ → Path
public_folder name = folder_at (public_name ∷ name ∷ [])

-- the path is this folder or is below it
abbrev pub is_within : Path → Path → Bool
is_within folder path = same_path folder path || is_below folder path

-- a module is its two folders and all below them; a star is all there is
abbrev pub covers : Reach → Path → Bool
covers (Module name) path = is_within (module_folder name) path || is_within (public_folder name) path
covers Star path = true

-- one scope allows the method on the path
abbrev pub allows : Scope → Method → Path → Bool
allows scope method path = (scope.write || is_reading method) && covers scope.reach path

-- some scope allows the method on the path
abbrev pub reach_of : List Scope → Method → Path → Bool
reach_of scopes method path = list_any (λ scope. allows scope method path) scopes

-- the names are `public` and at least one more
abbrev pub is_public_item : List (List ℕ) → Bool
is_public_item [] = false
is_public_item (first ∷ []) = false
is_public_item (first ∷ second ∷ rest) = bytes_eq first public_name

-- Get and Head of a document below `/public/` need no token; folders there do
abbrev pub is_free_read : Method → Path → Bool
is_free_read method path = is_reading method && not path.folder && is_public_item path.names
