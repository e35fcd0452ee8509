-- Rows opened one after another, whatever they spell.
use Rattle.std.specs.Prelude.{◌≡◌, ℕ, List, [], ◌∷◌, ◌++◌, length, map, Vec, Option, Some, None, Result, Ok, Err}
use Rattle.rs_row.specs.declared.open_fault.OpenFault.{OpenFault}
use Rattle.rs_row.specs.declared.open_fault.OpenFault.TheVariants.{BadRow, Unlawful, KeeperFailed, NoMemory}
use Rattle.rs_row.specs.declared.refusal.Refusal.{Refusal}
use Rattle.rs_row.specs.declared.refusal.Refusal.TheVariants.{Bad, Misplaced}
use Rattle.rs_row.specs.declared.refusal.TakeFault.{TakeFault}
use Rattle.rs_row.specs.declared.refusal.TakeFault.TheVariants.{Refused, NoMemory as NoMemoryToTake}

-- the bytes of rows that were read at once
abbrev pub texts_of : {Z : Type 0} → List (Vec ℕ Z) → List (List ℕ)
texts_of run = map (λ row. row.items) run

-- the answer to rows of which the one with the index is refused
abbrev pub refused_at : ℕ → Refusal → OpenFault
refused_at index (Bad place) = BadRow index place
refused_at index Misplaced = Unlawful index

-- a refusal at the index, or what comes later
abbrev pub refused_or : Option Refusal → ℕ → Option OpenFault → Option OpenFault
refused_or None index later = later
refused_or (Some refusal) index later = Some (refused_at index refusal)

-- what a row is refused for behind others, as these rows alone decide
module _ (refusal : List (List ℕ) → List ℕ → Option Refusal) where
  -- the first of the rows that is refused behind those before it; so many were taken already
  abbrev pub refused_from : List (List ℕ) → List (List ℕ) → Option OpenFault
  refused_from taken [] = None
  refused_from taken (row ∷ rows) = refused_or (refusal taken row) (length taken) (refused_from (taken ++ row ∷ []) rows)

  -- the first of the rows that is refused
  abbrev pub first_refused : List (List ℕ) → Option OpenFault
  first_refused rows = refused_from [] rows

  module _ {S : Type 0} (made_of : S → List (List ℕ) → Type 0) where
    -- a row was taken behind these, or refused, or memory ran out
    abbrev pub TakesNext : S → Result (Unit {0}) TakeFault → List (List ℕ) → List ℕ → Type 0
    TakesNext state (Ok done) rows row = (refusal rows row ≡ None) × made_of state (rows ++ row ∷ [])
    TakesNext state (Err (Refused why)) rows row = refusal rows row ≡ Some why
    TakesNext state (Err NoMemoryToTake) rows row = Unit {0}

    -- these rows were taken behind the others, or the first that is wrong was refused, or memory ran out
    abbrev pub TakesRun : S → Result (Unit {0}) OpenFault → List (List ℕ) → List (List ℕ) → Type 0
    TakesRun state (Ok done) rows run = (refused_from rows run ≡ None) × made_of state (rows ++ run)
    TakesRun state (Err (BadRow index place)) rows run = refused_from rows run ≡ Some (BadRow index place)
    TakesRun state (Err (Unlawful index)) rows run = refused_from rows run ≡ Some (Unlawful index)
    TakesRun state (Err KeeperFailed) rows run = ⊥
    TakesRun state (Err NoMemory) rows run = Unit {0}

    -- the rows were opened, or refused at the first row that is wrong, or they could not be read, or memory ran out
    abbrev pub OpensKeptRows : Result S OpenFault → List (List ℕ) → Type 0
    OpensKeptRows (Ok state) rows = (first_refused rows ≡ None) × made_of state rows
    OpensKeptRows (Err (BadRow index place)) rows = first_refused rows ≡ Some (BadRow index place)
    OpensKeptRows (Err (Unlawful index)) rows = first_refused rows ≡ Some (Unlawful index)
    OpensKeptRows (Err KeeperFailed) rows = Unit {0}
    OpensKeptRows (Err NoMemory) rows = Unit {0}
