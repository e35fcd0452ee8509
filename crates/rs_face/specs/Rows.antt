-- What a keeper tells of its rows, oldest first.
use Rattle.std.specs.Prelude.{◌≡◌, ℕ, List, [], ◌∷◌, ◌++◌, Option, Vec, length, take, drop, map}
use Rattle.std.specs.Option.{option_map}
use Rattle.rs_face.specs.Calls.{Calls}

-- told rows, and these behind them
abbrev pub with_rows : Option (List (List ℕ)) → List (List ℕ) → Option (List (List ℕ))
with_rows told more = option_map (λ rows. rows ++ more) told

-- told rows, and one more
abbrev pub with_row : Option (List (List ℕ)) → List ℕ → Option (List (List ℕ))
with_row told row = with_rows told (row ∷ [])

-- these are the rows from row i on, as many as they are
abbrev pub IsRun : {Z : Type 0} → List (List ℕ) → ℕ → List (Vec ℕ Z) → Type 0
IsRun rows i run = take (length run) (drop i rows) ≡ map (λ row. row.items) run

-- what is seen of a keeper in memory that fails: its rows and its calls
pub record KeeperState : Type 0 where
  pub rows : List (List ℕ)
  pub calls : Calls
