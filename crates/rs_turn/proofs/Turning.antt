-- The steps of a turn keep the rule: grab, book and pass.
use Rattle.std.proofs.Common.{◌≡◌, ◌≢◌, ℕ, ◌+◌, ◌%◌, ◌^◌, ◌<◌, min, max, List, [], ◌∷◌, length, get_or, set, Option, Some, sym, refl, ap, ◌∙◌, subst, inl, inr, ⊎_elim, arith}
use mathlib.Core.Option as home
use mathlib.Core.Logic.{dite}
use native.Mathlib.Decide.{ℕ_discrete}
use native.Mathlib.Nat.{mod-eq_of_lt}
use lib.ListN.{get_elem?}
use Rattle.atomic_table.specs.Table.{State, Me, Act, Allows, Valid, stepped, carried_after, put_back, rest, keeps, takes, gives}
use Rattle.atomic_table.proofs.Lists.{set_again}
use Rattle.rs_path.specs.declared.log_entry.LogEntry.{LogEntry}
use Rattle.rs_turn.specs.declared.board.View.{View}
use Rattle.rs_turn.specs.declared.board.Stage.{Stage}
use Rattle.rs_turn.specs.declared.board.Stage.TheVariants.{Idle, Holding, Looked, Drew}
use Rattle.rs_path.specs.Logs.{StartsWith, own}
use Rattle.rs_turn.specs.Entries.{extended}
use Rattle.rs_turn.specs.Origins.{BeginsAs}
use Rattle.rs_turn.specs.Rule.{tally, is_holding, is_drawing, has_drawn, is_busy, holding, StageFits, LogFits, TurnRule}
use Rattle.rs_turn.specs.Plays.{at_stage, having_seen, having_booked, Grabs, Books, Passes}
use Rattle.rs_turn.proofs.Tallies.{set_each, tally_set, tally_at, tally_two}
use Rattle.rs_turn.proofs.Histories.{begins_itself, begins_extended, of_other, length_extended}
use Rattle.rs_turn.specs.Places.{grown_by}
use Rattle.rs_turn.proofs.Parts.{three, seats_stay, turns_stay}

-- a mark that is left doesn't free the value
mark_stays : (held mark : ℕ) → ¬ (held ≡ 0) → min (max held mark) 1 ≡ min held 1
mark_stays held mark taken = omega arith

mark_takes : (held mark : ℕ) → 0 < mark → min (max held mark) 1 ≡ 1
mark_takes held mark some = omega arith

-- what another view's stage says, where the history grows by an entry that is not its own
stage_after : {W : Type 0} (log log' seen : List (LogEntry W)) (s : Stage) → (0 < is_holding s → ⊥) → ((n : ℕ) → s ≡ Drew n → own n log ≡ [] → own n log' ≡ []) → StageFits log seen s → StageFits log' seen s
stage_after log log' seen Idle free drawn k = tt
stage_after log log' seen Looked free drawn k = tt
stage_after log log' seen Holding free drawn k = absurd (free (omega arith))
stage_after log log' seen (Drew n) free drawn k = drawn n refl k

module _ {B W O : Type 0} (stood : O → List (LogEntry W) → Type 0) (stands : O → B → List (LogEntry W) → Type 0) (origin : O) where
  -- what a step owes, once the state is known
  abbrev Goes : State (Option B) (View W O) → ℕ → Me (Option B) (View W O) → ℕ → (ℕ → ℕ) → (ℕ → Me (Option B) (View W O) → Type 0) → Type 0
  Goes s id m i f then = (w : View W O) × (a : Act (Option B)) × Valid s.homes m.1 a × TurnRule stood stands origin (stepped s i (f (get_or s.words i 0)) id m.1 w a) × then (get_or s.words i 0) (w, carried_after m.1 a)

  -- a seat that holds the value is the only one
  only_one : (s : State (Option B) (View W O)) (k : TurnRule stood stands origin s) (id j : ℕ) (v x : View W O) → get_elem? s.views id ≡ home.some v → 0 < is_holding v.stage
      → get_elem? s.views j ≡ home.some x → j ≢ id → 0 < is_holding x.stage → ⊥
  only_one s k id j v x at holds there other both = let one = k.turns in let two = tally_two holding s.views j id x v other there at in absurd (omega arith)

  -- where the value is held, a try leaves a mark and changes nothing else
  misses : (s : State (Option B) (View W O)) (k : TurnRule stood stands origin s) (id : ℕ) (m : Me (Option B) (View W O)) (mark : ℕ) → get_elem? s.views id ≡ home.some m.0
      → ¬ (get_or s.words 0 0 ≡ 0) → Goes s id m 0 (λ n. max n mark) (Grabs stands m)
  misses s k id m mark at held =
      let found : get_or s.words 0 0 ≡ k.held = ap (λ ws. get_or ws 0 0) k.words in
      let views = set_again s.views id m.0 at in
      let kept : TurnRule stood stands origin (record { words = three (max k.held mark) (length k.log) k.made; homes = s.homes; views = s.views }) = record {
        held = max k.held mark;
        made = k.made;
        log = k.log;
        owner = k.owner;
        words = refl;
        seats = k.seats;
        turns = k.turns ∙ sym (mark_stays k.held mark (λ z. held (found ∙ z)));
        history = k.history;
      } in
      let words : set s.words 0 (max (get_or s.words 0 0) mark) ≡ three (max k.held mark) (length k.log) k.made = ap (λ ws. set ws 0 (max (get_or ws 0 0) mark)) k.words in (
        m.0,
        keeps,
        tt,
        subst (TurnRule stood stands origin) (λ i. record { words = sym words i; homes = s.homes; views = sym views i }) kept,
        (λ free. absurd (held free), λ _. refl),
      )

  -- where it is free, the try takes it out
  takes_turn : (s : State (Option B) (View W O)) (k : TurnRule stood stands origin s) (id : ℕ) (m : Me (Option B) (View W O)) (mark : ℕ) → get_elem? s.views id ≡ home.some m.0 → m.0.stage ≡ Idle → 0 < m.0.number → m.1 ≡ [] → 0 < mark
      → get_or s.words 0 0 ≡ 0 → (b : B) → s.homes ≡ home.some (Some b) ∷ [] → stands origin b k.log → tally holding s.views ≡ 0
      → Goes s id m 0 (λ n. max n mark) (Grabs stands m)
  takes_turn s k id m mark at idle some bare above free b homes stands_now none =
      let v = m.0 in
      let w = at_stage (having_seen v k.log) Holding in
      let fit = k.history.each id v at in
      let z = ap is_holding idle in
      let e = tally_set holding s.views id v w at in (
        w,
        takes 0 (Some b),
        ap (λ hs. get_elem? hs 0) homes,
        record {
          held = max k.held mark;
          made = k.made;
          log = k.log;
          owner = k.owner;
          words = ap (λ ws. set ws 0 (max (get_or ws 0 0) mark)) k.words;
          seats = seats_stay k.made k.owner s.views id v w k.seats at refl (k.seats.each id v at).most (ap has_drawn idle, ap is_drawing idle) (refl, refl) (omega arith);
          turns = let one = mark_takes k.held mark above in omega arith;
          history = record {
            each = set_each (λ j x. LogFits origin k.log x) (λ j x. LogFits origin k.log x) s.views id w k.history.each (λ j x other e old. old)
                record { origin = fit.origin; seen = begins_itself k.log; told = fit.told; mine = λ _. refl; stage = refl };
            begun = k.history.begun;
            unused = k.history.unused;
            slot = inr (ap (λ hs. set hs 0 home.none) homes, omega arith);
          };
        },
        (
          λ _. (b, origin, fit.origin some, ap (λ c. (0, Some b) ∷ c) bare, stands_now, fit.seen, fit.mine some, refl),
          λ held. absurd (held free),
        ),
      )

  pub grabs : (slots id : ℕ) (m : Me (Option B) (View W O)) → m.1 ≡ [] → m.0.stage ≡ Idle → 0 < m.0.number → (mark : ℕ) → 0 < mark → Allows (TurnRule stood stands origin) slots id m 0 (λ n. max n mark) (Grabs stands m)
  grabs slots id m bare idle some mark above s k one at small = dite (ℕ_discrete (get_or s.words 0 0) 0)
      (λ free. let found : get_or s.words 0 0 ≡ k.held = ap (λ ws. get_or ws 0 0) k.words in let turns = k.turns in
      ⊎_elim (λ x. takes_turn s k id m mark at idle some bare above free x.0 x.1 x.2 x.3) (λ x. let held = x.1 in absurd (omega arith)) k.history.slot)
      (λ held. misses s k id m mark at held)

  -- who is about something has a number
  numbered : (s : State (Option B) (View W O)) (k : TurnRule stood stands origin s) (id : ℕ) (v : View W O) → get_elem? s.views id ≡ home.some v → 0 < is_busy v.stage → 0 < v.number
  numbered s k id v at busy = let f = (k.seats.each id v at).busy in omega arith

  begins_as_extended : (log : List (LogEntry W)) (who : ℕ) (e : Option W) → BeginsAs stood origin log → BeginsAs stood origin (extended log who e)
  begins_as_extended log who e begun = (begun.0, begun.1, begins_extended log begun.0 who e begun.2)

  -- another view, where the seat that has the value books an entry
  booked_after : (s : State (Option B) (View W O)) (k : TurnRule stood stands origin s) (id : ℕ) (v : View W O) (e : Option W) → get_elem? s.views id ≡ home.some v → 0 < is_holding v.stage → 0 < v.number
      → (j : ℕ) (x : View W O) → j ≢ id → get_elem? s.views j ≡ home.some x → LogFits origin k.log x → LogFits origin (extended k.log v.number e) x
  booked_after s k id v e at holds some j x other there old =
      let mine = ((k.seats.each id v at).number some).0 in
      let fit = k.seats.each j x there in
      record {
        origin = old.origin;
        seen = begins_extended k.log x.seen v.number e old.seen;
        told = begins_extended k.log x.told v.number e old.told;
        mine = λ h. of_other x.number v.number k.log e (λ z. other (sym (fit.number h).0 ∙ (ap k.owner (sym z) ∙ mine))) ∙ old.mine h;
        stage = stage_after k.log (extended k.log v.number e) x.seen x.stage
            (λ h. only_one s k id j v x at holds there other h)
            (λ n d empty. of_other n v.number k.log e (λ z. other (sym (fit.drawn n d).0 ∙ (ap k.owner (sym z) ∙ mine))) ∙ empty) old.stage;
      }

  pub books : (slots id : ℕ) (m : Me (Option B) (View W O)) (n : ℕ) (e : Option W) → m.0.stage ≡ Holding → n ≡ grown_by e → length m.0.seen + n < 2 ^ 64
      → Allows (TurnRule stood stands origin) slots id m 1 (λ r. (r + n) % 2 ^ 64) (Books e m)
  books slots id m n e holds counted room s k one at small =
      let v = m.0 in
      let w = having_booked v e in
      let log = extended k.log v.number e in
      let fit = k.history.each id v at in
      let seat = k.seats.each id v at in
      let h = ap is_holding holds in
      let z = ap is_busy holds in
      let some = numbered s k id v at (omega arith) in
      let whole : v.seen ≡ k.log = subst (StageFits k.log v.seen) holds fit.stage in
      let whole' : w.seen ≡ log = ap (λ (l : List (LogEntry W)). extended l v.number e) whole in
      let small' : length k.log + n < 2 ^ 64 = subst (λ (l : List (LogEntry W)). length l + n < 2 ^ 64) whole room in (
        w,
        keeps,
        tt,
        record {
          held = k.held;
          made = k.made;
          log = log;
          owner = k.owner;
          words = ap (λ ws. set ws 1 ((get_or ws 1 0 + n) % 2 ^ 64)) k.words
              ∙ ap (λ l. three k.held l k.made) (mod-eq_of_lt small' ∙ (ap (λ c. length k.log + c) counted ∙ sym (length_extended k.log v.number e)));
          seats = seats_stay k.made k.owner s.views id v w k.seats at refl seat.most (ap has_drawn holds, ap is_drawing holds) (ap has_drawn holds, ap is_drawing holds) seat.busy;
          turns = turns_stay k.held s.views id v w k.turns at refl;
          history = record {
            each = set_each (λ j x. LogFits origin k.log x) (λ j x. LogFits origin log x) s.views id w k.history.each (booked_after s k id v e at (omega arith) some) record {
              origin = fit.origin;
              seen = subst (StartsWith log) (sym whole') (begins_itself log);
              told = begins_extended k.log v.told v.number e fit.told;
              mine = λ _. ap (own v.number) (sym whole');
              stage = subst (StageFits log w.seen) (sym holds) whole';
            };
            begun = begins_as_extended k.log v.number e k.history.begun;
            unused = λ j above. let mine = (seat.number some).1 in of_other j v.number k.log e (λ same. omega arith) ∙ k.history.unused j above;
            slot = ⊎_elim (λ x. let none = x.3 in let y = tally_at holding s.views id v at in absurd (omega arith))
                (λ x. let one = x.1 in let y = tally_set holding s.views id v w at in inr (x.0, omega arith)) k.history.slot;
          };
        },
        (refl, refl),
      )

  pub passes : (slots id : ℕ) (m : Me (Option B) (View W O)) (b : B) → m.0.stage ≡ Holding → m.1 ≡ (0, Some b) ∷ [] → (o : O) → m.0.origin ≡ Some o → stands o b m.0.seen
      → Allows (TurnRule stood stands origin) slots id m 0 (λ _. 0) (Passes m)
  passes slots id m b holds has o same stands_now s k one at small =
      let v = m.0 in
      let w = at_stage v Idle in
      let fit = k.history.each id v at in
      let h = ap is_holding holds in
      let z = ap is_busy holds in
      let some = numbered s k id v at (omega arith) in
      let whole : v.seen ≡ k.log = subst (StageFits k.log v.seen) holds fit.stage in
      let first : o ≡ origin = injected (sym same ∙ fit.origin some) in
      let turns = k.turns in
      let here = tally_at holding s.views id v at in
      let left = tally_set holding s.views id v w at in (
        w,
        gives,
        tt,
        record {
          held = 0;
          made = k.made;
          log = k.log;
          owner = k.owner;
          words = ap (λ ws. set ws 0 0) k.words;
          seats = seats_stay k.made k.owner s.views id v w k.seats at refl (k.seats.each id v at).most (ap has_drawn holds, ap is_drawing holds) (refl, refl) (omega arith);
          turns = omega arith;
          history = record {
            each = set_each (λ j x. LogFits origin k.log x) (λ j x. LogFits origin k.log x) s.views id w k.history.each (λ j x other e old. old)
                record { origin = fit.origin; seen = fit.seen; told = fit.told; mine = fit.mine; stage = tt };
            begun = k.history.begun;
            unused = k.history.unused;
            slot = ⊎_elim (λ x. let none = x.3 in absurd (omega arith))
                (λ x. let one = x.1 in
                inl (b, ap (put_back s.homes) has ∙ ap (λ hs. set hs 0 (home.some (Some b))) x.0, subst (λ (h : O × List (LogEntry W)). stands h.0 b h.1) (λ i. (first i, whole i)) stands_now, omega arith)) k.history.slot;
          };
        },
        (ap rest has, refl),
      )
    where
      injected : {a b : O} → Some a ≡ Some b → a ≡ b
      injected e = cc
