-- What a user's state stands for, and what stays so over turns.
use Rattle.std.specs.Prelude.{◌≡◌, ℕ, ◌≤◌, List, length, refl}
use Rattle.std.proofs.Common.{◌∙◌}
use Rattle.std.proofs.Math.Nat.{le_refl, le_trans}
use Rattle.rs_rules.specs.Histories.{History}
use Rattle.rs_rules.specs.Contents.{Contents}
use Rattle.rs_rules.specs.Snapshots.{Snapshot, snapshot}
use Rattle.rs_rules.specs.Lawful.{IsLawful}
use Rattle.rs_user.specs.declared.state.UserState.{UserState}
use Rattle.rs_user.specs.Grants.{scopes_in}

module _ {T R : Type 0} (tree_stands : T → Contents → Type 0) where
  -- the state has all that an answer looks at
  pub record Shows (state : UserState T R) (s : Snapshot) : Type 0 where
    pub tree : tree_stands state.tree s.contents
    pub scopes : (token : List ℕ) → scopes_in token state.granted ≡ s.scopes token
    pub len : state.len ≡ s.len

  -- the state stands for the lawful history: it has the documents, the versions, the granted tokens and the length, the cut
  -- and the number of the records since
  pub record StandsFor (state : UserState T R) (h : History) : Type 0 where
    pub shows : Shows state (snapshot h)
    pub lawful : IsLawful h
    pub cut : state.cut ≡ h.base.cut
    pub rows : state.rows ≡ length h.entries

module _ {T R K : Type 0} (tree_stands : T → Contents → Type 0) (row_count faults : K → ℕ) where
  -- the user 0 is served: the state stands for a history, and there are as many rows as it counts
  abbrev pub SoloServes : UserState T R → K → ℕ → Type 0
  SoloServes state keeper user = (user ≡ 0) × (row_count keeper ≡ state.rows) × ((h : History) × StandsFor tree_stands state h)

  -- the second state and keeper are the first ones some turns later
  pub record IsLaterState (state : UserState T R) (keeper : K) (now : UserState T R) (kept : K) : Type 0 where
    pub served : (user : ℕ) → SoloServes state keeper user → SoloServes now kept user
    pub same_quota : now.quota ≡ state.quota
    pub no_fewer : faults keeper ≤ faults kept

  pub later_itself : (state : UserState T R) (keeper : K) → IsLaterState state keeper state keeper
  later_itself state keeper = record { served = λ user served. served; same_quota = refl; no_fewer = le_refl (faults keeper) }

  pub later_trans : (a b c : UserState T R) (k l m : K) → IsLaterState a k b l → IsLaterState b l c m → IsLaterState a k c m
  later_trans a b c k l m first second = record {
    served = λ user served. second.served user (first.served user served);
    same_quota = second.same_quota ∙ first.same_quota;
    no_fewer = le_trans first.no_fewer second.no_fewer;
  }
