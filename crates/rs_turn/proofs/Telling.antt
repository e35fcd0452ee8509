-- What a turn tells follows from what its steps told.
use Rattle.std.proofs.Common.{◌≡◌, ℕ, zero, suc, ◌⊎◌, List, [], ◌∷◌, ◌++◌, Option, Some, None, sym, refl, ap, ◌∙◌, subst, inl, inr}
use Rattle.rs_path.specs.declared.log_entry.LogEntry.{LogEntry}
use Rattle.rs_path.specs.Logs.{StartsWith, own}
use Rattle.rs_turn.specs.Entries.{entry, extended}
use Rattle.rs_turn.specs.Places.{added}
use Rattle.rs_turn.specs.TookTurn.{TookTurn, Acted}
use Rattle.rs_turn.specs.Origins.{BeginsAsMade, HasBasisOf}
use Rattle.rs_turn.proofs.Histories.{of_extended}
use Rattle.rs_turn.proofs.Cited.{begins_on}

none_or : {W : Type 0} (more : ℕ) (e : Option W) → (added more e ≡ None) ⊎ (added more e ≡ e)
none_or zero e = inl refl
none_or (suc n) e = inr refl

own_more : {W : Type 0} (who : ℕ) (a b : List (LogEntry W)) (e : Option W) → own who a ≡ own who b → own who (extended a who e) ≡ extended (own who b) who e
own_more who a b None same = same
own_more who a b (Some x) same = of_extended who a x ∙ ap (λ (h : List (LogEntry _)). h ++ entry who x ∷ []) same

module _ {V W G A D : Type 0} (stands : V → List (LogEntry W) → Type 0) (basis_of : V → G) (adds : V → ℕ → Option W) (shows : G → List (LogEntry W) → ℕ → List (LogEntry W) → A → D → Type 0) where
  pub tells : (v w : V) (origin : Option V) (who more front : ℕ) (old mid new : List (LogEntry W)) (answer : A) (deed' : D)
      → Acted stands basis_of adds shows v w mid who more front answer deed' → stands v mid → HasBasisOf basis_of origin v → StartsWith mid old → BeginsAsMade stands origin old → own who mid ≡ own who old
      → new ≡ extended mid who (added more (adds v who)) → TookTurn stands basis_of adds shows origin who old new answer deed'
  tells v w origin who more front old mid new answer deed' acted stood same begins started mine after = record {
    before = mid;
    value = v;
    taken = added more (adds v who);
    begins = begins;
    started = begins_on stands origin mid old begins started;
    stood = stood;
    same = same;
    chosen = none_or more (adds v who);
    after = after;
    mine = ap (own who) after ∙ own_more who mid old (added more (adds v who)) mine;
    shown = subst (λ (h : List (LogEntry W)). shows (basis_of v) mid who h answer deed') (sym after) acted.shown;
  }
