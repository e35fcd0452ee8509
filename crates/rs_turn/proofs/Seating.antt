-- The steps by which a seat is numbered and split off, and those by which two seats meet, keep the rule.
use borrow.Author.Tests.{ltb-true}
use Rattle.std.proofs.Common.{◌≡◌, ℕ, ◌+◌, ◌%◌, ◌^◌, ◌<◌, ◌≤◌, min, ◌⊎◌, Bool, true, false, cond, ltb, List, [], ◌∷◌, ◌++◌, length, get_or, set, Option, sym, refl, ap, ◌∙◌, subst, ⊎_elim, arith}
use mathlib.Core.Option as home
use native.Mathlib.Nat.{mod-eq_of_lt}
use lib.ListN.{get_elem?}
use Rattle.atomic_table.specs.Table.{State, Me, Allows, Splits, Joins, keeps}
use Rattle.atomic_table.proofs.Lists.{at_set}
use Rattle.rs_path.specs.declared.log_entry.LogEntry.{LogEntry}
use Rattle.rs_turn.specs.declared.board.View.{View}
use Rattle.rs_turn.specs.declared.board.Stage.{Stage}
use Rattle.rs_turn.specs.declared.board.Stage.TheVariants.{Idle, Holding, Looked, Drew}
use Rattle.rs_path.specs.Logs.{StartsWith, own}
use Rattle.rs_turn.specs.Rule.{is_holding, is_drawing, has_drawn, is_busy, holding, drawing, named, SeatFits, Seats, StageFits, OneHolds, LogFits, Slot, LogPart, TurnRule}
use Rattle.rs_turn.specs.Limits.{max_seats}
use Rattle.rs_turn.specs.Plays.{drawn_number, at_stage, having_seen, knowing_made, parted, informed, spent, Sees, Numbers, CountsLog, Adopts}
use Rattle.rs_turn.proofs.Tallies.{put, put_here, put_else, set_each, push_each, tally_set, tally_push, tally_le}
use Rattle.rs_turn.proofs.Histories.{begins_itself, of_front, of_between}
use Rattle.rs_turn.proofs.Parts.{three, seats_stay, turns_stay, history_stays}

-- what a draw of the number n leaves the seat with, which has it or not
drawn_is : (n : ℕ) (b : Bool) (c : ℕ) → cond b (Drew n) Idle ≡ Drew c → c ≡ n
drawn_is n true c e = cc
drawn_is n false c e = let f = ap has_drawn e in absurd (omega arith)

drawn_once : (n : ℕ) (b : Bool) → has_drawn (cond b (Drew n) Idle) ≤ 1
drawn_once n true = omega arith
drawn_once n false = omega arith

busy_once : (n : ℕ) (b : Bool) → is_busy (cond b (Drew n) Idle) ≤ 1
busy_once n true = omega arith
busy_once n false = omega arith

not_drawing : (n : ℕ) (b : Bool) → is_drawing (cond b (Drew n) Idle) ≡ 0
not_drawing n true = refl
not_drawing n false = refl

not_holding : (n : ℕ) (b : Bool) → is_holding (cond b (Drew n) Idle) ≡ 0
not_holding n true = refl
not_holding n false = refl

drawn_fits : {W : Type 0} (n : ℕ) (log seen : List (LogEntry W)) → own n log ≡ [] → (b : Bool) → StageFits log seen (cond b (Drew n) Idle)
drawn_fits n log seen none true = none
drawn_fits n log seen none false = tt

drawn_stage : (s : Stage) → 0 < drawn_number s → s ≡ Drew (drawn_number s)
drawn_stage Idle h = absurd (omega arith)
drawn_stage Holding h = absurd (omega arith)
drawn_stage Looked h = absurd (omega arith)
drawn_stage (Drew n) h = refl

one_name : (s : Stage) → min (drawn_number s) 1 ≤ has_drawn s
one_name Idle = omega arith
one_name Holding = omega arith
one_name Looked = omega arith
one_name (Drew n) = omega arith

-- a seat may be split off one that is about nothing or has drawn a number for it
pub quiet_stage : (s : Stage) → (s ≡ Idle) ⊎ ((n : ℕ) × (s ≡ Drew n)) → (is_holding s ≡ 0) × (is_drawing s ≡ 0)
quiet_stage s q = ⊎_elim (λ e. (ap is_holding e, ap is_drawing e)) (λ d. (ap is_holding d.1, ap is_drawing d.1)) q

numbered_by : {W O : Type 0} {made n by : ℕ} {owner : ℕ → ℕ} {v : View W O} → SeatFits made owner by v → v.stage ≡ Drew n → 0 < v.number
numbered_by fit e = let h = fit.busy in let z = ap is_busy e in omega arith

module _ {B W O : Type 0} (stood : O → List (LogEntry W) → Type 0) (stands : O → B → List (LogEntry W) → Type 0) (origin : O) where
  -- a step that reads the word i and moves neither the words nor the value
  module _ (id : ℕ) (m : Me (Option B) (View W O)) (s : State (Option B) (View W O)) (k : TurnRule stood stands origin s) (at : get_elem? s.views id ≡ home.some m.0) where
    -- the seat looked, and may draw a number
    sees_room : m.0.stage ≡ Idle → 0 < m.0.number → (b : Bool) → b ≡ ltb k.made max_seats → Seats k.made k.owner (set s.views id (knowing_made m.0 k.made (cond b Looked Idle)))
    sees_room idle some false e = seats_stay k.made k.owner s.views id m.0 (knowing_made m.0 k.made Idle) k.seats at refl (omega arith) (ap has_drawn idle, ap is_drawing idle) (refl, refl) (omega arith)
    sees_room idle some true e =
        let v = m.0 in
        let w = knowing_made v k.made Looked in
        let fit = k.seats.each id v at in
        let names = k.seats.names in
        let n = tally_set named s.views id v w at in
        let d = tally_set drawing s.views id v w at in
        let x = ap has_drawn idle in
        let y = ap is_drawing idle in
        let few = ltb-true k.made max_seats (sym e) in
        let each = set_each (SeatFits k.made k.owner) (SeatFits k.made k.owner) s.views id w k.seats.each (λ j u other f old. old)
        record { number = fit.number; drawn = λ c f. let z = ap has_drawn f in absurd (omega arith); most = omega arith; busy = omega arith } in
        let all = tally_le drawing named (set s.views id w) (λ j u f. let z = (each j u f).busy in let c = drawing_busy u.stage in omega arith) in
        record { each = each; names = omega arith; room = omega arith }
      where
        drawing_busy : (st : Stage) → is_drawing st ≤ is_busy st
        drawing_busy Idle = omega arith
        drawing_busy Holding = omega arith
        drawing_busy Looked = omega arith
        drawing_busy (Drew c) = omega arith

    sees_turns : m.0.stage ≡ Idle → (n : ℕ) (b : Bool) → OneHolds k.held (set s.views id (knowing_made m.0 n (cond b Looked Idle)))
    sees_turns idle n false = turns_stay k.held s.views id m.0 (knowing_made m.0 n Idle) k.turns at (sym (ap is_holding idle))
    sees_turns idle n true = turns_stay k.held s.views id m.0 (knowing_made m.0 n Looked) k.turns at (sym (ap is_holding idle))

    sees_history : m.0.stage ≡ Idle → (n : ℕ) (b : Bool) → LogPart stood stands origin k.log k.made s.homes (set s.views id (knowing_made m.0 n (cond b Looked Idle)))
    sees_history idle n b =
        let fit = k.history.each id m.0 at in
        history_stays stood stands origin k.log k.made s.homes s.views id m.0 (knowing_made m.0 n (cond b Looked Idle)) k.history at k.made (omega arith)
        record { origin = fit.origin; seen = fit.seen; told = fit.told; mine = fit.mine; stage = free b } (same b)
      where
        free : (b : Bool) → StageFits k.log m.0.seen (cond b Looked Idle)
        free false = tt
        free true = tt

        same : (b : Bool) → is_holding (cond b Looked Idle) ≡ holding m.0
        same false = sym (ap is_holding idle)
        same true = sym (ap is_holding idle)

    -- a view whose seat is idle before and after
    kept_idle : (w : View W O) → w.number ≡ m.0.number → w.made ≤ k.made → m.0.stage ≡ Idle → w.stage ≡ Idle → LogFits origin k.log w → TurnRule stood stands origin (record { words = s.words; homes = s.homes; views = set s.views id w })
    kept_idle w number most idle idle' fit = record {
      held = k.held;
      made = k.made;
      log = k.log;
      owner = k.owner;
      words = k.words;
      seats = let z = ap is_busy idle' in seats_stay k.made k.owner s.views id m.0 w k.seats at number most (ap has_drawn idle, ap is_drawing idle) (ap has_drawn idle', ap is_drawing idle') (omega arith);
      turns = turns_stay k.held s.views id m.0 w k.turns at (ap is_holding idle' ∙ sym (ap is_holding idle));
      history = history_stays stood stands origin k.log k.made s.homes s.views id m.0 w k.history at k.made (omega arith) fit (ap is_holding idle' ∙ sym (ap is_holding idle));
    }

    -- the same at a load of the word i
    loaded : (w : View W O) (i : ℕ) → set s.words i (get_or s.words i 0) ≡ s.words → w.number ≡ m.0.number → w.made ≤ k.made → m.0.stage ≡ Idle → w.stage ≡ Idle → LogFits origin k.log w
        → TurnRule stood stands origin (record { words = set s.words i (get_or s.words i 0); homes = s.homes; views = set s.views id w })
    loaded w i words number most idle idle' fit =
        subst (λ (ws : List ℕ). TurnRule stood stands origin (record { words = ws; homes = s.homes; views = set s.views id w })) (sym words) (kept_idle w number most idle idle' fit)

  pub sees : (slots id : ℕ) (m : Me (Option B) (View W O)) → m.0.stage ≡ Idle → 0 < m.0.number → Allows (TurnRule stood stands origin) slots id m 2 (λ n. n) (Sees m)
  sees slots id m idle some s k one at small =
      let made : get_or s.words 2 0 ≡ k.made = ap (λ ws. get_or ws 2 0) k.words in
      let fit = k.seats.each id m.0 at in
      let most = fit.most in
      let w = λ (n : ℕ). knowing_made m.0 n (cond (ltb n max_seats) Looked Idle) in (
        w (get_or s.words 2 0),
        keeps,
        tt,
        record {
          held = k.held;
          made = k.made;
          log = k.log;
          owner = k.owner;
          words = ap (λ ws. set ws 2 (get_or ws 2 0)) k.words;
          seats = subst (λ (n : ℕ). Seats k.made k.owner (set s.views id (w n))) (sym made) (sees_room id m s k at idle some (ltb k.made max_seats) refl);
          turns = sees_turns id m s k at idle (get_or s.words 2 0) (ltb (get_or s.words 2 0) max_seats);
          history = sees_history id m s k at idle (get_or s.words 2 0) (ltb (get_or s.words 2 0) max_seats);
        },
        (refl, omega arith, refl),
      )

  pub counts : (slots id : ℕ) (m : Me (Option B) (View W O)) → m.0.stage ≡ Idle → 0 < m.0.number → Allows (TurnRule stood stands origin) slots id m 1 (λ n. n) (CountsLog stood m)
  counts slots id m idle some s k one at small =
      let v = m.0 in
      let fit = k.history.each id v at in (
        having_seen v k.log,
        keeps,
        tt,
        loaded id m s k at (having_seen v k.log) 1 (ap (λ ws. set ws 1 (get_or ws 1 0)) k.words ∙ sym k.words) refl (k.seats.each id v at).most idle idle
            record { origin = fit.origin; seen = begins_itself k.log; told = fit.told; mine = λ _. refl; stage = subst (StageFits k.log k.log) (sym idle) tt },
        (refl, ap (λ ws. get_or ws 1 0) k.words, (origin, fit.origin some, k.history.begun), fit.seen, fit.told, fit.mine some, refl),
      )

  pub adopts : (slots id : ℕ) (m : Me (Option B) (View W O)) → m.0.stage ≡ Idle → 0 < m.0.number → StartsWith m.0.told m.0.seen → Allows (TurnRule stood stands origin) slots id m 1 (λ n. n) (Adopts m)
  adopts slots id m idle some begins s k one at small =
      let v = m.0 in
      let fit = k.history.each id v at in
      let same = of_between v.number k.log v.told v.seen fit.told begins (fit.mine some) in (
        having_seen v v.told,
        keeps,
        tt,
        loaded id m s k at (having_seen v v.told) 1 (ap (λ ws. set ws 1 (get_or ws 1 0)) k.words ∙ sym k.words) refl (k.seats.each id v at).most idle idle
            record { origin = fit.origin; seen = fit.told; told = fit.told; mine = λ h. fit.mine h ∙ sym same; stage = subst (StageFits k.log v.told) (sym idle) tt },
        (refl, same, refl),
      )

  -- a note that was read says nothing more
  spends : (id : ℕ) (m : Me (Option B) (View W O)) (s : State (Option B) (View W O)) (k : TurnRule stood stands origin s) → get_elem? s.views id ≡ home.some m.0 → m.0.stage ≡ Idle → m.0.number ≡ 0
      → TurnRule stood stands origin (record { words = s.words; homes = s.homes; views = set s.views id spent })
  spends id m s k at idle none = kept_idle id m s k at spent (sym none) (omega arith) idle refl
      record { origin = λ h. absurd (omega arith); seen = (k.log, refl); told = (k.log, refl); mine = λ h. absurd (omega arith); stage = tt }

  pub joins : (id : ℕ) (v : View W O) (other : ℕ) (w : View W O) → v.stage ≡ Idle → w.stage ≡ Idle → w.number ≡ 0 → Joins (TurnRule stood stands origin) id v other w (informed v w) spent
  joins id v other w idle idle' none s k at apart there =
      let both = informed v w in
      let fit = k.history.each id v at in
      let was : get_elem? s.views other ≡ home.some w = ⊎_elim (λ t. absurd (apart t.0)) (λ t. t.1) (at_set s.views id other both w there) in
      let told = (k.history.each other w was).seen in
      let mid = kept_idle id (v, []) s k at both refl (k.seats.each id v at).most idle idle
      record { origin = fit.origin; seen = fit.seen; told = told; mine = fit.mine; stage = fit.stage } in
      spends other (w, []) (record { words = s.words; homes = s.homes; views = set s.views id both }) mid there idle' none

  module _ (id : ℕ) (m : Me (Option B) (View W O)) (s : State (Option B) (View W O)) (k : TurnRule stood stands origin s) (at : get_elem? s.views id ≡ home.some m.0) (looked : m.0.stage ≡ Looked) where
    -- the seats, where one more is numbered
    numbers_seats : (b : Bool) → Seats (k.made + 1) (put k.owner (k.made + 1) id) (set s.views id (knowing_made m.0 (k.made + 1) (cond b (Drew (k.made + 1)) Idle)))
    numbers_seats b =
        let n = k.made + 1 in
        let w = knowing_made m.0 n (cond b (Drew n) Idle) in
        let fit = k.seats.each id m.0 at in
        let some = let h = fit.busy in let z = ap is_busy looked in let r : 0 < m.0.number = omega arith in r in
        let mine = fit.number some in
        let low = mine.1 in
        record {
          each = set_each (SeatFits k.made k.owner) (SeatFits n (put k.owner n id)) s.views id w k.seats.each (λ j x other e old. record {
            number = λ h. let o = old.number h in let le = o.1 in (put_else k.owner n id x.number (λ z. omega arith) ∙ o.0, omega arith);
            drawn = λ c e. let o = old.drawn c e in let le = o.1 in (put_else k.owner n id c (λ z. omega arith) ∙ o.0, omega arith, o.2);
            most = let h = old.most in omega arith;
            busy = old.busy;
          }) record {
            number = λ h. (put_else k.owner n id m.0.number (λ z. omega arith) ∙ mine.0, omega arith);
            drawn = λ c e. let z = drawn_is n b c e in (ap (put k.owner n id) z ∙ put_here k.owner n id, omega arith, omega arith);
            most = omega arith;
            busy = let h = busy_once n b in omega arith;
          };
          names = let h = k.seats.names in let t = tally_set named s.views id m.0 w at in let x = ap has_drawn looked in let y = drawn_once n b in omega arith;
          room = let h = k.seats.room in let t = tally_set drawing s.views id m.0 w at in let x = ap is_drawing looked in let y = not_drawing n b in omega arith;
        }

    numbers_turns : (n : ℕ) (b : Bool) → OneHolds k.held (set s.views id (knowing_made m.0 n (cond b (Drew n) Idle)))
    numbers_turns n false = turns_stay k.held s.views id m.0 (knowing_made m.0 n Idle) k.turns at (sym (ap is_holding looked))
    numbers_turns n true = turns_stay k.held s.views id m.0 (knowing_made m.0 n (Drew n)) k.turns at (sym (ap is_holding looked))

    numbers_history : (b : Bool) → LogPart stood stands origin k.log (k.made + 1) s.homes (set s.views id (knowing_made m.0 (k.made + 1) (cond b (Drew (k.made + 1)) Idle)))
    numbers_history b =
        let n = k.made + 1 in
        let fit = k.history.each id m.0 at in
        history_stays stood stands origin k.log k.made s.homes s.views id m.0 (knowing_made m.0 n (cond b (Drew n) Idle)) k.history at n (omega arith)
        record { origin = fit.origin; seen = fit.seen; told = fit.told; mine = fit.mine; stage = drawn_fits n k.log m.0.seen (k.history.unused n (omega arith)) b } (not_holding n b ∙ sym (ap is_holding looked))

  pub numbers : (slots id : ℕ) (m : Me (Option B) (View W O)) → m.0.stage ≡ Looked → Allows (TurnRule stood stands origin) slots id m 2 (λ r. (r + 1) % 2 ^ 64) (Numbers m)
  numbers slots id m looked s k one at small =
      let made : get_or s.words 2 0 ≡ k.made = ap (λ ws. get_or ws 2 0) k.words in
      let fit = k.seats.each id m.0 at in
      let some : 0 < m.0.number = let h = fit.busy in let z = ap is_busy looked in omega arith in
      let most = fit.most in
      let mine = (fit.number some).1 in
      let room = k.seats.room in
      let r = get_or s.words 2 0 in
      let w = λ (n : ℕ). knowing_made m.0 (n + 1) (cond (ltb n max_seats) (Drew (n + 1)) Idle) in (
        w (get_or s.words 2 0),
        keeps,
        tt,
        record {
          held = k.held;
          made = k.made + 1;
          log = k.log;
          owner = put k.owner (k.made + 1) id;
          words = ap (λ ws. set ws 2 ((get_or ws 2 0 + 1) % 2 ^ 64)) k.words ∙ ap (λ n. three k.held (length k.log) n) (mod-eq_of_lt (omega arith));
          seats = subst (λ (n : ℕ). Seats (k.made + 1) (put k.owner (k.made + 1) id) (set s.views id (w n))) (sym made) (numbers_seats id m s k at looked (ltb k.made max_seats));
          turns = numbers_turns id m s k at looked (get_or s.words 2 0 + 1) (ltb (get_or s.words 2 0) max_seats);
          history = subst (λ (n : ℕ). LogPart stood stands origin k.log (k.made + 1) s.homes (set s.views id (w n))) (sym made) (numbers_history id m s k at looked (ltb k.made max_seats));
        },
        (
          refl,
          omega arith,
          omega arith,
          of_front (get_or s.words 2 0 + 1) k.log m.0.seen (k.history.each id m.0 at).seen (k.history.unused (get_or s.words 2 0 + 1) (omega arith)),
          refl,
        ),
      )

  module _ (id : ℕ) (v : View W O) (s : State (Option B) (View W O)) (k : TurnRule stood stands origin s) (at : get_elem? s.views id ≡ home.some v) (quiet : (is_holding v.stage ≡ 0) × (is_drawing v.stage ≡ 0)) where
    -- the seats, where one is split off: it has the number that was drawn, if one was
    parts_seats : Seats k.made (put k.owner (drawn_number v.stage) (length (set s.views id (at_stage v Idle)))) (set s.views id (at_stage v Idle) ++ parted v ∷ [])
    parts_seats =
        let n = drawn_number v.stage in
        let left = at_stage v Idle in
        let views = set s.views id left in
        let owner = put k.owner n (length views) in
        let fit = k.seats.each id v at in
        let mine = λ (h : 0 < n). fit.drawn n (drawn_stage v.stage h) in
        let each = set_each (SeatFits k.made k.owner) (SeatFits k.made owner) s.views id left k.seats.each (λ j x other e old. record {
          number = λ h. let o = old.number h in
              (put_else k.owner n (length views) x.number (λ z. other (sym o.0 ∙ (ap k.owner z ∙ (mine (subst (λ c. 0 < c) z h)).0))) ∙ o.0, o.1);
          drawn = λ c e'. let o = old.drawn c e' in let above = o.2 in
              (put_else k.owner n (length views) c (λ z. other (sym o.0 ∙ (ap k.owner z ∙ (mine (subst (λ (y : ℕ). 0 < y) z (omega arith))).0))) ∙ o.0, o.1, o.2);
          most = old.most;
          busy = old.busy;
        }) record {
          number = λ h. let o = fit.number h in
              (put_else k.owner n (length views) v.number (λ z. let a = (mine (subst (λ c. 0 < c) z h)).2 in omega arith) ∙ o.0, o.1);
          drawn = λ c e. let f = ap has_drawn e in absurd (omega arith);
          most = fit.most;
          busy = omega arith;
        } in
        record {
          each = push_each (SeatFits k.made owner) views (parted v) each record {
            number = λ h. (put_here k.owner n (length views), (mine h).1);
            drawn = λ c e. let f = ap has_drawn e in absurd (omega arith);
            most = fit.most;
            busy = omega arith;
          };
          names = let h = k.seats.names in let t = tally_set named s.views id v left at in let u = tally_push named views (parted v) in let d = one_name v.stage in omega arith;
          room = let h = k.seats.room in let t = tally_set drawing s.views id v left at in let u = tally_push drawing views (parted v) in let q = quiet.1 in omega arith;
        }

    parts_turns : OneHolds k.held (set s.views id (at_stage v Idle) ++ parted v ∷ [])
    parts_turns =
        let left = at_stage v Idle in
        let views = set s.views id left in
        let q = turns_stay k.held s.views id v left k.turns at (sym quiet.0) in
        let u = tally_push holding views (parted v) in omega arith

    parts_history : LogPart stood stands origin k.log k.made s.homes (set s.views id (at_stage v Idle) ++ parted v ∷ [])
    parts_history =
        let left = at_stage v Idle in
        let views = set s.views id left in
        let fit = k.history.each id v at in
        let some = λ (h : 0 < drawn_number v.stage). numbered_by (k.seats.each id v at) (drawn_stage v.stage h) in
        let t = history_stays stood stands origin k.log k.made s.homes s.views id v left k.history at k.made (omega arith)
        record { origin = fit.origin; seen = fit.seen; told = fit.told; mine = fit.mine; stage = tt } (sym quiet.0) in
        record {
          each = push_each (λ j x. LogFits origin k.log x) views (parted v) t.each record {
            origin = λ h. fit.origin (some h);
            seen = fit.seen;
            told = fit.told;
            mine = λ h. let none = subst (StageFits k.log v.seen) (drawn_stage v.stage h) fit.stage in none ∙ sym (of_front (drawn_number v.stage) k.log v.seen fit.seen none);
            stage = tt;
          };
          begun = t.begun;
          unused = t.unused;
          slot = let u = tally_push holding views (parted v) in subst (Slot stood stands origin k.log s.homes) (omega arith) t.slot;
        }

  pub parts : (id : ℕ) (v : View W O) → (is_holding v.stage ≡ 0) × (is_drawing v.stage ≡ 0) → Splits (TurnRule stood stands origin) id v (at_stage v Idle) (parted v)
  parts id v quiet s k at = record {
    held = k.held;
    made = k.made;
    log = k.log;
    owner = put k.owner (drawn_number v.stage) (length (set s.views id (at_stage v Idle)));
    words = k.words;
    seats = parts_seats id v s k at quiet;
    turns = parts_turns id v s k at quiet;
    history = parts_history id v s k at quiet;
  }
