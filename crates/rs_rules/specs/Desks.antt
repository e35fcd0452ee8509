-- Desks, some turns later.
use Rattle.std.specs.Prelude.{◌≡◌, ℕ, ◌≤◌, Bool}
use Rattle.rs_rules.specs.Histories.{History}

-- the users of the first desk are served by the second, with the same quotas and numbers; both are alone or neither is; and no fault is forgotten
pub record StaysServed {D : Type 0} (serves : D → ℕ → Type 0) (quota me : D → ℕ → ℕ) (alone : D → Bool) (faults : D → ℕ) (old new : D) : Type 0 where
  pub users : (user : ℕ) → serves old user → serves new user
  pub same_quota : quota new ≡ quota old
  pub same_number : me new ≡ me old
  pub same_alone : alone new ≡ alone old
  pub later : faults old ≤ faults new

-- whatever history it stood for, there is one that it stands for now, and this holds of the two
abbrev pub ForHistory : (History → Type 0) → (History → Type 0) → (History → History → Type 0) → Type 0
ForHistory stood stands Holds = (old : History) → stood old → (now : History) × stands now × Holds old now

-- the same of the histories of these users
abbrev pub ForHistories : (ℕ → Type 0) → (ℕ → History → Type 0) → (ℕ → History → Type 0) → ((ℕ → History) → (ℕ → History) → Type 0) → Type 0
ForHistories is_user stood stands Holds =
    (old : ℕ → History) → ((user : ℕ) → is_user user → stood user (old user))
    → (now : ℕ → History) × ((user : ℕ) → is_user user → stands user (now user)) × Holds old now
