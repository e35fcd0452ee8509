-- What a turn of its state has done to a room.
use Rattle.std.proofs.Common.{◌≡◌, ℕ, Bool, true, false, List, length, Option, Some, None, Result, Ok, Err, inl, inr, refl, sym, ap, ◌∙◌, subst, append-nil, zero-add}
use Rattle.rs_path.specs.declared.log_entry.LogEntry.{LogEntry}
use Rattle.rs_face.specs.Causes.{Rose}
use Rattle.rs_record.specs.declared.records.Record.{Record}
use Rattle.rs_rules.specs.declared.desk.DeskFault.{DeskFault}
use Rattle.rs_rules.specs.declared.desk.DeskFault.TheVariants.{NoMemory}
use Rattle.rs_rules.specs.declared.request.Request.{Request}
use Rattle.rs_rules.specs.declared.turn.Turn.{Turn}
use Rattle.rs_rules.specs.Histories.{History, with_entries}
use Rattle.rs_rules.specs.Contents.{Contents}
use Rattle.rs_rules.specs.Answers.{taken, entry_of, brought}
use Rattle.rs_rules.specs.Growth.{is_store_failed}
use Rattle.rs_turn.specs.Entries.{extended, Leaves}
use Rattle.rs_user.specs.declared.state.UserState.{UserState}
use Rattle.rs_user.specs.Standing.{StandsFor}
use Rattle.rs_user.specs.Openings.{AreToldRows}
use Rattle.rs_user.specs.Turns.{StateTurned, AnswersBy, Answered, IsStill}
use Rattle.rs_hall.specs.declared.room.Room.{Room}
use Rattle.rs_hall.specs.Asks.{is_failed_turn, IsDecidedOn, IsShownBy, IsShown}
use Rattle.rs_hall.specs.Rooms.{history_of, IsRoom}

-- only the record that a request brings is taken
abbrev pub OnlyLaw : Type 0
OnlyLaw = (h : History) (quota : ℕ) (r : Request) (what : Record) → taken h quota r ≡ Some what → brought r ≡ Some what

-- a list with an entry that may be there, as a history
pub history_extended : (list : List (LogEntry Record)) (who : ℕ) (x : Option Record)
    → with_entries (history_of list) (entry_of who x) ≡ history_of (extended list who x)
history_extended list who None = ap history_of (append-nil list)
history_extended list who (Some what) = refl

module _ {K T R : Type 0} (tree_stands : T → Contents → Type 0) (rows : K → Option (List (List ℕ))) (row_count : K → ℕ) where
  -- the room as it was, as far as it stands for the list
  still_room : (room room' : Room K T R) (list : List (LogEntry Record)) → IsRoom tree_stands rows row_count room list
      → row_count room'.keeper ≡ room'.state.rows → IsStill tree_stands room'.state (history_of list) (rows room.keeper) (rows room'.keeper)
      → IsRoom tree_stands rows row_count room' list
  still_room room room' list is counted still = record {
    stands = still.stands;
    counted = counted;
    spells = subst (λ told. AreToldRows told (history_of list)) (sym still.rows) is.spells;
  }

  decided : (room room' : Room K T R) (list : List (LogEntry Record)) (quota who : ℕ) (r : Request) (turn : Turn) (x : Option Record)
      → OnlyLaw → IsRoom tree_stands rows row_count room list → row_count room'.keeper ≡ room'.state.rows
      → Answered tree_stands room'.state (history_of list) quota who r turn (rows room.keeper) (rows room'.keeper)
      → taken (history_of list) quota r ≡ x
      → Leaves list who (brought r) (λ after. IsRoom tree_stands rows row_count room' after × IsDecidedOn r quota list who after turn)
  decided room room' list quota who r turn x only is counted answers takes =
      let after : with_entries (history_of list) (entry_of who (taken (history_of list) quota r)) ≡ history_of (extended list who x) =
      ap (λ o. with_entries (history_of list) (entry_of who o)) takes ∙ history_extended list who x in
      let now : IsRoom tree_stands rows row_count room' (extended list who x) = record {
        stands = subst (StandsFor tree_stands room'.state) after answers.stands;
        counted = counted;
        spells = subst (AreToldRows (rows room'.keeper)) after (answers.spells is.spells);
      } in
      let shown : IsDecidedOn r quota list who (extended list who x) turn = record {
        reply = answers.reply;
        front = answers.front ∙ zero-add (length list);
        added = ap (extended list who) (sym takes);
      } in
      left x only takes now shown
    where
      left : (x : Option Record) → OnlyLaw → taken (history_of list) quota r ≡ x
          → IsRoom tree_stands rows row_count room' (extended list who x) → IsDecidedOn r quota list who (extended list who x) turn
          → Leaves list who (brought r) (λ after. IsRoom tree_stands rows row_count room' after × IsDecidedOn r quota list who after turn)
      left None only takes now shown = inl (now, shown)
      left (Some what) only takes now shown = inr (what, only (history_of list) quota r what takes, (now, shown))

  acted_by : (failed : Bool) (room room' : Room K T R) (list : List (LogEntry Record)) (quota who : ℕ) (r : Request) (turn : Turn) (before now : ℕ)
      → OnlyLaw → IsRoom tree_stands rows row_count room list → row_count room'.keeper ≡ room'.state.rows
      → AnswersBy tree_stands failed room'.state (history_of list) quota who r turn (rows room.keeper) (rows room'.keeper) before now
      → Leaves list who (brought r) (λ after. IsRoom tree_stands rows row_count room' after × IsShownBy failed r quota list who after turn)
  acted_by true room room' list quota who r turn before now only is counted answers =
      inl (still_room room room' list is counted answers.still, refl)
  acted_by false room room' list quota who r turn before now only is counted answers =
      decided room room' list quota who r turn (taken (history_of list) quota r) only is counted answers refl

  -- what a turn leaves of a room and shows
  pub acted : (room room' : Room K T R) (list : List (LogEntry Record)) (quota who : ℕ) (r : Request) (result : Result Turn DeskFault) (before now : ℕ)
      → OnlyLaw → IsRoom tree_stands rows row_count room list → row_count room'.keeper ≡ room'.state.rows
      → StateTurned tree_stands room'.state (history_of list) quota who r result (rows room.keeper) (rows room'.keeper) before now
      → Leaves list who (brought r) (λ after. IsRoom tree_stands rows row_count room' after × IsShown r quota list who after result)
  acted room room' list quota who r (Err NoMemory) before now only is counted turned = inl (still_room room room' list is counted turned, refl)
  acted room room' list quota who r (Ok turn) before now only is counted turned =
      acted_by (is_store_failed turn.reply) room room' list quota who r turn before now only is counted turned

module _ {T R : Type 0} (tree_stands : T → Contents → Type 0) where
  rose_by : (failed : Bool) (state : UserState T R) (h : History) (quota who : ℕ) (r : Request) (turn : Turn) (old new : Option (List (List ℕ))) (before now : ℕ)
      → failed ≡ true → AnswersBy tree_stands failed state h quota who r turn old new before now → Rose before now
  rose_by true state h quota who r turn old new before now is answers = answers.rose
  rose_by false state h quota who r turn old new before now is answers = cc

  -- where the record couldn't be kept, the keeper's count of faults rose
  pub rose : (state : UserState T R) (h : History) (quota who : ℕ) (r : Request) (result : Result Turn DeskFault) (old new : Option (List (List ℕ))) (before now : ℕ)
      → StateTurned tree_stands state h quota who r result old new before now → is_failed_turn result ≡ true → Rose before now
  rose state h quota who r (Err NoMemory) old new before now turned is = cc
  rose state h quota who r (Ok turn) old new before now turned is =
      rose_by (is_store_failed turn.reply) state h quota who r turn old new before now is turned
