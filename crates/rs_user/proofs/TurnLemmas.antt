-- What a kept record, and a reply that adds none, are for a turn.
use Rattle.std.proofs.Common.{◌≡◌, ℕ, Bool, true, false, List, [], Option, Some, None, Result, Ok, Err, refl, sym, ap, ◌∙◌, subst, append-nil}
use Rattle.rs_face.specs.Causes.{HasCause, Rose}
use Rattle.rs_face.specs.Rows.{with_rows}
use Rattle.rs_face.specs.declared.keeper.KeepFault.{KeepFault}
use Rattle.rs_face.specs.declared.keeper.KeepFault.TheVariants.{Failed, NoMemory as NoMemoryToKeep}
use Rattle.rs_record.specs.declared.records.Record.{Record}
use Rattle.rs_rules.specs.declared.desk.DeskFault.{DeskFault}
use Rattle.rs_rules.specs.declared.desk.DeskFault.TheVariants.{NoMemory}
use Rattle.rs_rules.specs.declared.reply.Reply.{Reply}
use Rattle.rs_rules.specs.declared.request.Request.{Request}
use Rattle.rs_rules.specs.declared.turn.Turn.{Turn}
use Rattle.rs_rules.specs.Histories.{History, len, with_entries}
use Rattle.rs_rules.specs.Contents.{Contents}
use Rattle.rs_rules.specs.Answers.{answer, taken, entry_of, record_of}
use Rattle.rs_rules.specs.Growth.{is_store_failed, GrowsByOthers, Grows, AddsNothing, Turned, TurnedBy}
use Rattle.rs_user.specs.declared.state.UserState.{UserState}
use Rattle.rs_user.specs.Standing.{StandsFor}
use Rattle.rs_user.specs.Openings.{AreToldRows}
use Rattle.rs_user.specs.Turns.{row_of, Keeps, KeepsBy, IsStill, TellsFault, StateTurned, AnswersBy, Answered}
use Rattle.rs_user.proofs.SpellingLemmas.{spells_more}

with_none : (told : Option (List (List ℕ))) → with_rows told [] ≡ told
with_none None = refl
with_none (Some rows) = ap Some (append-nil rows)

same_entries : (h : History) → h ≡ with_entries h []
same_entries h = ap (λ es. record { base = h.base; entries = es }) (sym (append-nil h.entries))

module _ {T R : Type 0} (tree_stands : T → Contents → Type 0) where
  kept_by : (failed : Bool) (state : UserState T R) (h : History) (quota who : ℕ) (r : Request) (what : Record) (told : Reply) (turn : Turn)
      (old new : Option (List (List ℕ))) (before now : ℕ) → answer h quota r ≡ told → record_of r told ≡ Some what
      → KeepsBy tree_stands failed state h who what told turn old new before now
      → AnswersBy tree_stands failed state h quota who r turn old new before now
  kept_by true state h quota who r what told turn old new before now is adds kept = kept
  kept_by false state h quota who r what told turn old new before now is adds kept =
      let added : taken h quota r ≡ Some what = ap (record_of r) is ∙ adds in
      record {
        reply = kept.reply ∙ sym is;
        front = kept.front;
        stands = subst (λ o. StandsFor tree_stands state (with_entries h (entry_of who o))) (sym added) kept.stands;
        rows = kept.rows ∙ ap (λ o. with_rows old (row_of o)) (sym added);
        spells = λ spells. subst (λ o. AreToldRows new (with_entries h (entry_of who o))) (sym added)
            (spells_more old new h who what kept.rows kept.back kept.stands.lawful spells);
      }

  told_for : (fault : KeepFault) (result : Result Turn DeskFault) (state : UserState T R) (h : History) (who : ℕ) (what : Record) (reply : Reply)
      (old new : Option (List (List ℕ))) (before now : ℕ) → TellsFault fault result → IsStill tree_stands state h old new → (fault ≡ Failed → Rose before now)
      → Keeps tree_stands state h who what reply result old new before now
  told_for Failed (Ok turn) state h who what reply old new before now told still rose =
      subst (λ (r : Reply). KeepsBy tree_stands (is_store_failed r) state h who what reply turn old new before now) (sym told)
      (record { still = still; rose = rose refl })
  told_for Failed (Err fault) state h who what reply old new before now told still rose = absurd told
  told_for NoMemoryToKeep (Ok turn) state h who what reply old new before now told still rose = absurd told
  told_for NoMemoryToKeep (Err NoMemory) state h who what reply old new before now told still rose = still

  -- the row wasn't kept, and the state stands for what it stood for
  pub not_kept : (fault : KeepFault) (kept : Result (Unit {0}) KeepFault) (result : Result Turn DeskFault) (state : UserState T R) (h : History) (who : ℕ)
      (what : Record) (reply : Reply) (old new : Option (List (List ℕ))) (before now : ℕ) → kept ≡ Err fault → TellsFault fault result
      → StandsFor tree_stands state h → new ≡ old → HasCause before now Failed kept
      → Keeps tree_stands state h who what reply result old new before now
  not_kept fault kept result state h who what reply old new before now is told stands same cause =
      told_for fault result state h who what reply old new before now told (record { stands = stands; rows = same })
      (λ failed. cause.failed (is ∙ ap Err failed))

  -- the request's record was kept
  pub kept_turns : (state : UserState T R) (h : History) (quota who : ℕ) (r : Request) (what : Record) (told : Reply) (result : Result Turn DeskFault)
      (old new : Option (List (List ℕ))) (before now : ℕ) → answer h quota r ≡ told → record_of r told ≡ Some what
      → Keeps tree_stands state h who what told result old new before now
      → StateTurned tree_stands state h quota who r result old new before now
  kept_turns state h quota who r what told (Err NoMemory) old new before now is adds kept = kept
  kept_turns state h quota who r what told (Ok turn) old new before now is adds kept =
      kept_by (is_store_failed turn.reply) state h quota who r what told turn old new before now is adds kept

  still_by : (state : UserState T R) (h : History) (quota who : ℕ) (r : Request) (turn : Turn) (told : Option (List (List ℕ))) (count : ℕ)
      → turn.reply ≡ answer h quota r → turn.front ≡ len h → taken h quota r ≡ None → StandsFor tree_stands state h
      → Answered tree_stands state h quota who r turn told told
  still_by state h quota who r turn told count is front adds stands = record {
    reply = is;
    front = front;
    stands = subst (λ o. StandsFor tree_stands state (with_entries h (entry_of who o))) (sym adds) (subst (StandsFor tree_stands state) (same_entries h) stands);
    rows = sym (ap (λ o. with_rows told (row_of o)) adds ∙ with_none told);
    spells = λ spells. subst (λ o. AreToldRows told (with_entries h (entry_of who o))) (sym adds) (subst (AreToldRows told) (same_entries h) spells);
  }

  -- the request adds no record
  pub still_turns : (state : UserState T R) (h : History) (quota who : ℕ) (r : Request) (turn : Turn) (told : Option (List (List ℕ))) (count : ℕ)
      → is_store_failed (answer h quota r) ≡ false
      → turn.reply ≡ answer h quota r → turn.front ≡ len h → taken h quota r ≡ None → StandsFor tree_stands state h
      → StateTurned tree_stands state h quota who r (Ok turn) told told count count
  still_turns state h quota who r turn told count fine is front adds stands =
      subst (λ b. AnswersBy tree_stands b state h quota who r turn told told count count) (sym (ap is_store_failed is ∙ fine))
      (still_by state h quota who r turn told count is front adds stands)

nothing : (h : History) → GrowsByOthers h h 1 → AddsNothing h h 1 true
nothing h still = record { others = still; still = λ alone. refl }

module _ {T R : Type 0} (tree_stands : T → Contents → Type 0) where
  sits_by : (failed : Bool) (state : UserState T R) (h : History) (quota user : ℕ) (r : Request) (turn : Turn) (old new : Option (List (List ℕ))) (before now : ℕ)
      → user ≡ 0 → AreToldRows old h → AnswersBy tree_stands failed state h quota 1 r turn old new before now
      → GrowsByOthers h h 1 → Grows h (with_entries h (entry_of 1 (taken h quota r))) quota 1 r (answer h quota r) (len h)
      → (x : History) × ((user ≡ 0) × StandsFor tree_stands state x × AreToldRows new x) × TurnedBy failed h x quota 1 true r turn before now
  sits_by true state h quota user r turn old new before now zero spells answers still grows = (
    h,
    (zero, answers.still.stands, subst (λ told. AreToldRows told h) (sym answers.still.rows) spells),
    record { nothing = nothing h still; rose = answers.rose },
  )
  sits_by false state h quota user r turn old new before now zero spells answers still grows = (
    with_entries h (entry_of 1 (taken h quota r)),
    (zero, answers.stands, answers.spells spells),
    record {
      grows = subst (λ front. Grows h (with_entries h (entry_of 1 (taken h quota r))) quota 1 r turn.reply front) (sym answers.front)
          (subst (λ reply. Grows h (with_entries h (entry_of 1 (taken h quota r))) quota 1 r reply (len h)) (sym answers.reply) grows);
      now = λ alone. answers.front;
    },
  )

  pub sits : (state : UserState T R) (h : History) (quota user : ℕ) (r : Request) (result : Result Turn DeskFault) (old new : Option (List (List ℕ))) (before now : ℕ)
      → user ≡ 0 → AreToldRows old h → StateTurned tree_stands state h quota 1 r result old new before now
      → GrowsByOthers h h 1 → Grows h (with_entries h (entry_of 1 (taken h quota r))) quota 1 r (answer h quota r) (len h)
      → (x : History) × ((user ≡ 0) × StandsFor tree_stands state x × AreToldRows new x) × Turned h x quota 1 true r result before now
  sits state h quota user r (Err NoMemory) old new before now zero spells turned still grows =
      (h, (zero, turned.stands, subst (λ told. AreToldRows told h) (sym turned.rows) spells), nothing h still)
  sits state h quota user r (Ok turn) old new before now zero spells turned still grows =
      sits_by (is_store_failed turn.reply) state h quota user r turn old new before now zero spells turned still grows

  stands_by : (failed : Bool) (state : UserState T R) (h : History) (quota who : ℕ) (r : Request) (turn : Turn) (old new : Option (List (List ℕ))) (before now : ℕ)
      → AnswersBy tree_stands failed state h quota who r turn old new before now → (x : History) × StandsFor tree_stands state x
  stands_by true state h quota who r turn old new before now answers = (h, answers.still.stands)
  stands_by false state h quota who r turn old new before now answers = (with_entries h (entry_of who (taken h quota r)), answers.stands)

  pub stands_after : (state : UserState T R) (h : History) (quota who : ℕ) (r : Request) (result : Result Turn DeskFault) (old new : Option (List (List ℕ))) (before now : ℕ)
      → StateTurned tree_stands state h quota who r result old new before now → (x : History) × StandsFor tree_stands state x
  stands_after state h quota who r (Err NoMemory) old new before now turned = (h, turned.stands)
  stands_after state h quota who r (Ok turn) old new before now turned =
      stands_by (is_store_failed turn.reply) state h quota who r turn old new before now turned
