-- The parts of the rule, each over a step that does not concern it.
use Rattle.std.proofs.Common.{◌≡◌, ℕ, ◌<◌, ◌≤◌, min, List, [], ◌∷◌, set, Option, sym, ap, subst, arith}
use mathlib.Core.Option as home
use lib.ListN.{get_elem?}
use Rattle.rs_path.specs.declared.log_entry.LogEntry.{LogEntry}
use Rattle.rs_turn.specs.declared.board.View.{View}
use Rattle.rs_turn.specs.declared.board.Stage.{Stage}
use Rattle.rs_turn.specs.Rule.{is_drawing, has_drawn, is_busy, holding, drawing, named, SeatFits, Seats, OneHolds, LogFits, Slot, LogPart}
use Rattle.rs_turn.proofs.Tallies.{set_each, tally_set}

-- the three words of the table
abbrev pub three : ℕ → ℕ → ℕ → List ℕ
three a b c = a ∷ b ∷ c ∷ []

-- a stage in which no seat is being numbered
abbrev pub IsQuiet : Stage → Type 0
IsQuiet s = (has_drawn s ≡ 0) × (is_drawing s ≡ 0)

module _ {W O : Type 0} where
  module _ (made : ℕ) (owner : ℕ → ℕ) (views : List (View W O)) (by : ℕ) (v w : View W O) (k : Seats made owner views) (at : get_elem? views by ≡ home.some v) where
    -- a step of a seat that numbers none
    pub seats_stay : w.number ≡ v.number → w.made ≤ made → IsQuiet v.stage → IsQuiet w.stage → is_busy w.stage ≤ min w.number 1 → Seats made owner (set views by w)
    seats_stay number most quiet quiet' busy =
        let fit = k.each by v at in
        let n = tally_set named views by v w at in
        let d = tally_set drawing views by v w at in
        let i = ap (λ (z : ℕ). min z 1) number in
        record {
          each = set_each (SeatFits made owner) (SeatFits made owner) views by w k.each (λ j x other e old. old) record {
            number = subst (λ (z : ℕ). 0 < z → (owner z ≡ by) × (z ≤ made)) (sym number) fit.number;
            drawn = λ x e. let f = ap has_drawn e in let q = quiet'.0 in absurd (omega arith);
            most = most;
            busy = busy;
          };
          names = let h = k.names in let q = quiet.0 in let q' = quiet'.0 in omega arith;
          room = let h = k.room in let q = quiet.1 in let q' = quiet'.1 in omega arith;
        }

  -- a step that moves no value
  pub turns_stay : (held : ℕ) (views : List (View W O)) (by : ℕ) (v w : View W O) → OneHolds held views → get_elem? views by ≡ home.some v → holding w ≡ holding v → OneHolds held (set views by w)
  turns_stay held views by v w k at same = let s = tally_set holding views by v w at in omega arith

  module _ {B : Type 0} (stood : O → List (LogEntry W) → Type 0) (stands : O → B → List (LogEntry W) → Type 0) (origin : O) (log : List (LogEntry W)) (made : ℕ) (homes : List (home.Option (Option B))) (views : List (View W O)) (by : ℕ) (v w : View W O) (k : LogPart stood stands origin log made homes views) (at : get_elem? views by ≡ home.some v) where
    -- a step that moves neither the value nor the history
    pub history_stays : (made' : ℕ) → made ≤ made' → LogFits origin log w → holding w ≡ holding v → LogPart stood stands origin log made' homes (set views by w)
    history_stays made' more here same = record {
      each = set_each (λ j x. LogFits origin log x) (λ j x. LogFits origin log x) views by w k.each (λ j x other e old. old) here;
      begun = k.begun;
      unused = λ n h. k.unused n (omega arith);
      slot = let s = tally_set holding views by v w at in subst (Slot stood stands origin log homes) (omega arith) k.slot;
    }
