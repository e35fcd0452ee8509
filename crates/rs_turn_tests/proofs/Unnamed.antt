-- Rows as entries.
use Rattle.std.proofs.Common.{◌≡◌, ℕ, ◌<◌, ne_eqb, cond, List, [], ◌∷◌, map, refl, ap, ◌∙◌, arith}
use Rattle.rs_path.specs.declared.log_entry.LogEntry.{LogEntry}
use Rattle.rs_path.specs.Logs.{own}

-- the rows as entries that nobody made
abbrev pub unnamed : List ℕ → List (LogEntry ℕ)
unnamed rows = map (λ (x : ℕ). record { who = 0; what = x }) rows

abbrev pub whats : List (LogEntry ℕ) → List ℕ
whats list = map (λ (e : LogEntry ℕ). e.what) list

pub whats-unnamed : (rows : List ℕ) → whats (unnamed rows) ≡ rows
whats-unnamed [] = refl
whats-unnamed (x ∷ xs) = ap (λ (l : List ℕ). x ∷ l) (whats-unnamed xs)

pub none_own : (n : ℕ) (rows : List ℕ) → 0 < n → own n (unnamed rows) ≡ []
none_own n [] above = refl
none_own n (x ∷ xs) above = ap (λ b. cond b (record { who = 0; what = x } ∷ own n (unnamed xs)) (own n (unnamed xs))) (ne_eqb 0 n (λ e. omega arith)) ∙ none_own n xs above
