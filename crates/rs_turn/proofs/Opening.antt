-- The table of a lock that was just made keeps the rule.
use Rattle.std.proofs.Common.{◌≡◌, ℕ, ◌<◌, zero, suc, List, [], ◌∷◌, length, Some, sym, refl, ap, subst, inl, arith}
use mathlib.Core.Option as home
use mathlib.Core.Option.{some-injective, some-ne-none}
use lib.ListN.{get_elem?}
use Rattle.atomic_table.specs.Table.{opening}
use Rattle.rs_path.specs.declared.log_entry.LogEntry.{LogEntry}
use Rattle.rs_path.specs.Logs.{own}
use Rattle.rs_turn.proofs.Histories.{begins_itself}
use Rattle.rs_turn.specs.Rule.{has_drawn, SeatFits, LogFits, TurnRule, opened}

-- what holds of the only element of a list holds of each
only : {A : Type 0} (P : ℕ → A → Type 0) (w : A) → P 0 w → (j : ℕ) (x : A) → get_elem? (w ∷ []) j ≡ home.some x → P j x
only P w here zero x e = subst (P 0) (some-injective w x e) here
only P w here (suc j) x e = absurd (some-ne-none x (sym e))

module _ {B W O : Type 0} (stood : O → List (LogEntry W) → Type 0) (stands : O → B → List (LogEntry W) → Type 0) (origin : O) where
  pub opens : (b : B) (h : List (LogEntry W)) → stood origin h → stands origin b h → ((n : ℕ) → 0 < n → own n h ≡ [])
      → TurnRule stood stands origin (opening (0 ∷ length h ∷ 1 ∷ []) (Some b ∷ []) (opened origin))
  opens b h began stands_now none = record {
    held = 0;
    made = 1;
    log = h;
    owner = λ _. 0;
    words = refl;
    seats = record {
      each = only (SeatFits 1 (λ _. 0)) (opened origin) record { number = λ _. (refl, omega arith); drawn = λ n e. let f = ap has_drawn e in absurd (omega arith); most = omega arith; busy = omega arith };
      names = omega arith;
      room = omega arith;
    };
    turns = omega arith;
    history = record {
      each = only (λ j x. LogFits origin h x) (opened origin) record { origin = λ _. refl; seen = (h, refl); told = (h, refl); mine = λ _. none 1 (omega arith); stage = tt };
      begun = (h, began, begins_itself h);
      unused = λ n above. none n (omega arith);
      slot = inl (b, refl, stands_now, omega arith);
    };
  }
