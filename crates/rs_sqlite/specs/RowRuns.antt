-- A query of rows in their order that is under way.
use Rattle.std.specs.Prelude.{◌≡◌, ℕ, List, [], ◌∷◌, ◌++◌, Vec, map, codes}
use Rattle.sqlite.specs.declared.types.Value.TheVariants.{Blob}
use Rattle.sqlite.specs.Order.{Row, column}
use Rattle.sqlite.specs.Store.{Ghosts}
use Rattle.sqlite.specs.Held.{Held}
use Rattle.sqlite.specs.Given.{HasGiven}

-- the rows from a number on
abbrev pub run_text : List ℕ
run_text = codes "SELECT bytes FROM kept WHERE n >= ?1 ORDER BY n"

-- the query is under way, and has given no row yet
abbrev pub HasBegunRun : {S : Type 0} → Ghosts S → Row → Held S → Type 0
HasBegunRun g params h = HasGiven g run_text params h []

-- it has given rows of these bytes
pub record HasShown {S Z : Type 0} (g : Ghosts S) (params : Row) (h : Held S) (run : List (Vec ℕ Z)) : Type 0 where
  pub given : List Row
  pub under_way : HasGiven g run_text params h given
  pub bytes : map (λ row. column row 0) given ≡ map (λ v. Blob v.items) run

-- it has given one more row, of these bytes
abbrev pub ShowsNext : {S Z : Type 0} → Ghosts S → Held S → Held S → Vec ℕ Z → Type 0
ShowsNext {S} {Z} g old new bytes = (params : Row) (run : List (Vec ℕ Z)) → HasShown g params old run → HasShown g params new (run ++ bytes ∷ [])
