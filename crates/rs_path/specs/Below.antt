-- Which paths lie below a folder, and the folders above a path.
use Rattle.std.specs.Prelude.{ℕ, Bool, true, false, ◌&&◌, List, [], ◌∷◌, length, take, map, Option, Some, None}
use Rattle.std.specs.Str.{bytes_eq}
use Rattle.rs_path.specs.Paths.{Path, folder_at}

-- the first names are a proper prefix of the second
abbrev pub is_inside : List (List ℕ) → List (List ℕ) → Bool
is_inside [] [] = false
is_inside [] (n ∷ ns) = true
is_inside (m ∷ ms) [] = false
is_inside (m ∷ ms) (n ∷ ns) = bytes_eq m n && is_inside ms ns

-- the path is below the folder: the folder's names are a proper prefix of the path's
abbrev pub is_below : Path → Path → Bool
is_below folder path = folder.folder && is_inside folder.names path.names

-- the proper fronts of a list, the shortest first
abbrev pub proper_fronts : List (List ℕ) → List (List (List ℕ))
proper_fronts [] = []
proper_fronts (n ∷ ns) = [] ∷ map (λ front. n ∷ front) (proper_fronts ns)

-- the folders that the path is below, from `/` down
abbrev pub ancestors_of : Path → List Path
ancestors_of path = map folder_at (proper_fronts path.names)

-- the folder with all these names but the last
abbrev pub parent_at : List (List ℕ) → Option Path
parent_at [] = None
parent_at (n ∷ ns) = Some (folder_at (take (length ns) (n ∷ ns)))

-- the folder that the path is in, with all its names but the last
abbrev pub parent_of : Path → Option Path
parent_of path = parent_at path.names
