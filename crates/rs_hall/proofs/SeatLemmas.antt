-- What a turn of a seat has done to its list, and to the desk that has the seat.
use Rattle.std.proofs.Common.{◌≡◌, ◌≢◌, ℕ, zero, suc, ◌+◌, ◌^◌, ◌<◌, ◌≤◌, cond, Bool, true, false, List, [], ◌∷◌, ◌++◌, length, get_or, Option, Some, None, Result, Ok, Err, arith, refl, sym, ap, ◌∙◌, subst, append-nil, append_assoc, zero-add, eq-eqb}
use Rattle.std.specs.Prelude.{◌==◌}
use Rattle.std.proofs.Math.ListN.{set}
use Rattle.std.proofs.Math.Seq.{map-set_same}
use Rattle.std.proofs.lemmas.Bool.{cond-true}
use Rattle.std.proofs.lemmas.List.{append_cancel_right, get_or-map, get_or-set_other, get_or-set_same, length-map, map-set}
use Rattle.std.proofs.lemmas.List.Elements.{filter-append}
use Rattle.rs_path.specs.declared.log_entry.LogEntry.{LogEntry}
use Rattle.rs_path.specs.Logs.{StartsWith, own}
use Rattle.rs_face.specs.Causes.{one_more, Rose}
use Rattle.rs_record.specs.declared.records.Record.{Record}
use Rattle.rs_rules.specs.declared.desk.DeskFault.{DeskFault}
use Rattle.rs_rules.specs.declared.desk.DeskFault.TheVariants.{NoMemory}
use Rattle.rs_rules.specs.declared.reply.Reply.{Reply}
use Rattle.rs_rules.specs.declared.request.Request.{Request}
use Rattle.rs_rules.specs.declared.turn.Turn.{Turn}
use Rattle.rs_rules.specs.Histories.{History, len, with_entries}
use Rattle.rs_rules.specs.Answers.{answer, taken, entry_of}
use Rattle.rs_rules.specs.Growth.{is_store_failed, AddsNothing, Grows, GrowsByOthers, Turned, TurnedBy}
use Rattle.rs_turn.specs.Entries.{entry, extended}
use Rattle.rs_turn.specs.Sitting.{Sitting}
use Rattle.rs_turn.specs.TookTurn.{TookTurn}
use Rattle.rs_hall.proofs.RoomLemmas.{history_extended}
use Rattle.rs_hall.specs.declared.room.Room.{Room}
use Rattle.rs_hall.specs.Asks.{is_failed_turn, IsDecidedOn, IsShownBy, IsShown}
use Rattle.rs_hall.specs.Halls.{locks_of, numbers_of, lists_of, list_at, faults_in, AreLater, HasMet, by_user, quota_of_origin, quotas_of}
use Rattle.rs_hall.specs.Rooms.{history_of}

-- ---- lists with one more entry

own_extended : (who : ℕ) (list : List (LogEntry Record)) (x : Option Record) → own who (extended list who x) ≡ extended (own who list) who x
own_extended who list None = refl
own_extended who list (Some what) =
    filter-append (λ (e : LogEntry Record). e.who == who) list (entry who what ∷ [])
    ∙ ap (λ es. own who list ++ es) (cond-true (who == who) (entry who what ∷ []) [] (eq-eqb who who refl))

extended_back : (a b : List (LogEntry Record)) (who : ℕ) (x : Option Record) → extended a who x ≡ extended b who x → a ≡ b
extended_back a b who None e = e
extended_back a b who (Some what) e = append_cancel_right a b (entry who what ∷ []) e

begins_more : (a b : List (LogEntry Record)) (who : ℕ) (x : Option Record) → StartsWith a b → StartsWith (extended a who x) b
begins_more a b who None s = s
begins_more a b who (Some what) s =
    (s.0 ++ entry who what ∷ [], ap (λ (l : List (LogEntry Record)). l ++ entry who what ∷ []) s.1 ∙ append_assoc b s.0 (entry who what ∷ []))

-- ---- one seat

-- what `growth_laws` of rs_rules says of a desk that is alone, and of growth by others before a turn
abbrev pub AloneLaw : Type 0
AloneLaw = (h : History) (quota me : ℕ) (r : Request) → Grows h (with_entries h (entry_of me (taken h quota r))) quota me r (answer h quota r) (len h)

abbrev pub AfterLaw : Type 0
AfterLaw = (a b c : History) (quota me : ℕ) (r : Request) (reply : Reply) (front : ℕ) → GrowsByOthers a b me
    → Grows b c quota me r reply front → Grows a c quota me r reply front

module _ {V D : Type 0} (stands : V → List (LogEntry Record) → Type 0) (basis_of : V → ℕ) (adds : V → ℕ → Option Record) (r : Request) (origin : Option V)
    (who : ℕ) (old new : List (LogEntry Record)) (asked : D) where
  abbrev Took : Result Turn DeskFault → Type 0
  Took result = TookTurn stands basis_of adds (λ quota before n after answer deed. IsShown r quota before n after answer) origin who old new result asked

  -- before the deed only others had made entries
  by_others : (result : Result Turn DeskFault) (t : Took result) → GrowsByOthers (history_of old) (history_of t.before) who
  by_others result t = record {
    before = record { same = refl; entries = t.begins };
    mine = extended_back (own who t.before) (own who old) who t.taken
        (sym (own_extended who t.before t.taken) ∙ (ap (own who) (sym t.after) ∙ t.mine));
  }

  adds_nothing : (result : Result Turn DeskFault) (t : Took result) → new ≡ t.before → AddsNothing (history_of old) (history_of new) who false
  adds_nothing result t same = record {
    others = subst (λ list. GrowsByOthers (history_of old) (history_of list) who) (sym same) (by_others result t);
    still = λ alone. cc;
  }

  grows : (result : Result Turn DeskFault) (t : Took result) (quota : ℕ) (turn : Turn) → AloneLaw → AfterLaw
      → IsDecidedOn r quota t.before who new turn → Grows (history_of old) (history_of new) quota who r turn.reply turn.front
  grows result t quota turn alone after shown =
      let h = history_of t.before in
      let now : with_entries h (entry_of who (taken h quota r)) ≡ history_of new =
      history_extended t.before who (taken h quota r) ∙ ap history_of (sym shown.added) in
      let front : turn.front ≡ len h = shown.front ∙ sym (zero-add (length t.before)) in
      after (history_of old) h (history_of new) quota who r turn.reply turn.front (by_others result t)
      (subst (λ (n : ℕ). Grows h (history_of new) quota who r turn.reply n) (sym front)
      (subst (λ (reply : Reply). Grows h (history_of new) quota who r reply (len h)) (sym shown.reply)
      (subst (λ x. Grows h x quota who r (answer h quota r) (len h)) now (alone h quota who r))))

  turned_by : (failed : Bool) (result : Result Turn DeskFault) (t : Took result) (quota : ℕ) (turn : Turn) (before now : ℕ) → AloneLaw → AfterLaw
      → IsShownBy failed r quota t.before who new turn → (failed ≡ true → Rose before now)
      → TurnedBy failed (history_of old) (history_of new) quota who false r turn before now
  turned_by true result t quota turn before now alone after shown rose = record { nothing = adds_nothing result t shown; rose = rose refl }
  turned_by false result t quota turn before now alone after shown rose = record { grows = grows result t quota turn alone after shown; now = λ a. cc }

  turned_so : (result : Result Turn DeskFault) (t : Took result) (quota before now : ℕ) → AloneLaw → AfterLaw
      → IsShown r quota t.before who new result → (is_failed_turn result ≡ true → Rose before now)
      → Turned (history_of old) (history_of new) quota who false r result before now
  turned_so (Err NoMemory) t quota before now alone after shown rose = adds_nothing (Err NoMemory) t shown
  turned_so (Ok turn) t quota before now alone after shown rose =
      turned_by (is_store_failed turn.reply) (Ok turn) t quota turn before now alone after shown rose

  -- what a turn of the seat has done
  pub seat_turned : (result : Result Turn DeskFault) (t : Took result) (quota_of : Option V → ℕ) (before now : ℕ) → AloneLaw → AfterLaw
      → ((v : V) → quota_of (Some v) ≡ basis_of v) → (is_failed_turn result ≡ true → Rose before now)
      → Turned (history_of old) (history_of new) (quota_of origin) who false r result before now
  seat_turned result t quota_of before now alone after is rose =
      let quota : basis_of t.value ≡ quota_of origin = t.same.2 ∙ (sym (is t.same.0) ∙ ap quota_of (sym t.same.1)) in
      turned_so result t (quota_of origin) before now alone after
      (subst (λ (n : ℕ). IsShown r n t.before who new result) quota t.shown) rose

  pub seat_begins : (result : Result Turn DeskFault) (t : Took result) → StartsWith new old
  seat_begins result t = subst (λ list. StartsWith list old) (sym t.after) (begins_more t.before old who t.taken t.begins)

-- a seat's count of failures after a turn
pub no_fewer_of : (failed : Bool) (before now : ℕ) → before < 2 ^ 64 → now ≡ cond failed (one_more before) before → before ≤ now
no_fewer_of true before now few is = omega arith
no_fewer_of false before now few is = omega arith

pub rose_of : (failed : Bool) (before now : ℕ) → now ≡ cond failed (one_more before) before → failed ≡ true → Rose before now
rose_of true before now is failed = omega arith
rose_of false before now is failed = cc

-- ---- the seats of a desk, of which one took a turn

module _ {W V : Type 0} where
  pub here_at : (seats : List (Sitting W V)) (place : ℕ) (s : Sitting W V) → place < length seats → s ≡ get_or seats place s
      → list_at seats place ≡ s.list
  here_at seats place s few is =
      get_or-map (λ (x : Sitting W V). x.list) seats place s [] few ∙ ap (λ (x : Sitting W V). x.list) (sym is)

  number_here : (seats : List (Sitting W V)) (place : ℕ) (s : Sitting W V) → place < length seats → s ≡ get_or seats place s
      → by_user (numbers_of seats) place ≡ s.who
  number_here seats place s few is =
      get_or-map (λ (x : Sitting W V). x.who) seats place s 0 few ∙ ap (λ (x : Sitting W V). x.who) (sym is)

  pub now_at : (seats : List (Sitting W V)) (place : ℕ) (s : Sitting W V) → place < length seats → list_at (set seats place s) place ≡ s.list
  now_at seats place s few =
      let many : place < length (lists_of seats) = omega (arith, length-map seats (λ (x : Sitting W V). x.list)) in
      ap (λ (lists : List (List (LogEntry W))). get_or lists place []) (map-set (λ (x : Sitting W V). x.list) seats place s)
      ∙ get_or-set_same (lists_of seats) place s.list [] many

  pub now_elsewhere : (seats : List (Sitting W V)) (place other : ℕ) (s : Sitting W V) → other ≢ place
      → list_at (set seats place s) other ≡ list_at seats other
  now_elsewhere seats place other s apart =
      ap (λ (lists : List (List (LogEntry W))). get_or lists other []) (map-set (λ (x : Sitting W V). x.list) seats place s)
      ∙ get_or-set_other (lists_of seats) place other s.list [] apart

  lists_later : (seats : List (Sitting W V)) (place : ℕ) (s s' : Sitting W V) → s ≡ get_or seats place s → StartsWith s'.list s.list
      → (user : ℕ) → StartsWith (list_at (set seats place s') user) (list_at seats user)
  lists_later [] place s s' is begins user = ([], refl)
  lists_later (x ∷ seats) zero s s' is begins zero = subst (λ (y : Sitting W V). StartsWith s'.list y.list) is begins
  lists_later (x ∷ seats) zero s s' is begins (suc user) = ([], sym (append-nil (list_at seats user)))
  lists_later (x ∷ seats) (suc place) s s' is begins zero = ([], sym (append-nil x.list))
  lists_later (x ∷ seats) (suc place) s s' is begins (suc user) = lists_later seats place s s' is begins user

  faults_set : (seats : List (Sitting W V)) (place : ℕ) (s s' : Sitting W V) → place < length seats → s ≡ get_or seats place s
      → faults_in (set seats place s') + s.faults ≡ faults_in seats + s'.faults
  faults_set [] place s s' few is = absurd (omega arith)
  faults_set (x ∷ seats) zero s s' few is = let e = ap (λ (y : Sitting W V). y.faults) is in omega arith
  faults_set (x ∷ seats) (suc place) s s' few is = let rest = faults_set seats place s s' (omega arith) is in omega arith

  faults_here : (seats : List (Sitting W V)) (place : ℕ) (s : Sitting W V) → place < length seats → s ≡ get_or seats place s
      → s.faults ≤ faults_in seats
  faults_here [] place s few is = absurd (omega arith)
  faults_here (x ∷ seats) zero s few is = let e = ap (λ (y : Sitting W V). y.faults) is in omega arith
  faults_here (x ∷ seats) (suc place) s few is = let rest = faults_here seats place s (omega arith) is in omega arith

  locks_stay : (seats : List (Sitting W V)) (place : ℕ) (s s' : Sitting W V) → s ≡ get_or seats place s → s'.lock ≡ s.lock
      → locks_of (set seats place s') ≡ locks_of seats
  locks_stay seats place s s' is same =
      map-set_same (λ (x : Sitting W V). x.lock) seats place s' s (same ∙ ap (λ (x : Sitting W V). x.lock) is)

  -- the seats with a later seat in the place of one
  pub later_with : (seats : List (Sitting W V)) (place : ℕ) (s s' : Sitting W V) → place < length seats → s ≡ get_or seats place s
      → s' ≡ record s { list = s'.list; faults = s'.faults } → StartsWith s'.list s.list → s.faults ≤ s'.faults → AreLater seats (set seats place s')
  later_with seats place s s' few is rest begins later = record {
    locks = locks_stay seats place s s' is (ap (λ (x : Sitting W V). x.lock) rest);
    numbers = map-set_same (λ (x : Sitting W V). x.who) seats place s' s (ap (λ (x : Sitting W V). x.who) rest ∙ ap (λ (x : Sitting W V). x.who) is);
    lists = lists_later seats place s s' is begins;
    no_fewer = let sums = faults_set seats place s s' few is in omega arith;
  }

  met_with : (seats : List (Sitting W V)) (place : ℕ) (s : Sitting W V) (list : List (LogEntry W)) → place < length seats → s ≡ get_or seats place s
      → StartsWith list s.list → own s.who list ≡ own s.who s.list → HasMet seats (set seats place (record s { list = list })) place
  met_with seats place s list few is begins mine =
      let s' = record s { list = list } in
      let who = number_here seats place s few is in
      record {
        later = later_with seats place s s' few is refl begins (omega arith);
        mine = ap (λ (n : ℕ). own n (list_at (set seats place s') place)) who ∙ (ap (own s.who) (now_at seats place s' few)
            ∙ (mine ∙ (ap (own s.who) (sym (here_at seats place s few is)) ∙ ap (λ (n : ℕ). own n (list_at seats place)) (sym who))));
        others = λ other apart. now_elsewhere seats place other s' apart;
      }

  -- the seats after that in one place met another, and has now this list
  pub has_met : (seats : List (Sitting W V)) (place : ℕ) (s s' : Sitting W V) (list : List (LogEntry W)) → place < length seats → s ≡ get_or seats place s
      → s' ≡ record s { list = list } → StartsWith list s.list → own s.who list ≡ own s.who s.list → HasMet seats (set seats place s') place
  has_met seats place s s' list few is rest begins mine =
      subst (λ (x : Sitting W V). HasMet seats (set seats place x) place) (sym rest) (met_with seats place s list few is begins mine)

  -- what rose for one seat rose for all
  pub rose_for_all : (seats : List (Sitting W V)) (place : ℕ) (s s' : Sitting W V) → place < length seats → s ≡ get_or seats place s
      → Rose s.faults s'.faults → Rose (faults_in seats) (faults_in (set seats place s'))
  rose_for_all seats place s s' few is rose =
      let sums = faults_set seats place s s' few is in
      let part = faults_here seats place s few is in
      omega arith

-- the quota of the user, by the lock of the seat
pub quota_here : {K T R : Type 0} (seats : List (Sitting Record (Room K T R))) (place : ℕ) (s : Sitting Record (Room K T R)) → place < length seats
    → s ≡ get_or seats place s → by_user (quotas_of (locks_of seats)) place ≡ quota_of_origin s.lock.origin
quota_here [] place s few is = absurd (omega arith)
quota_here {K} {T} {R} (x ∷ seats) zero s few is = ap (λ (y : Sitting Record (Room K T R)). quota_of_origin y.lock.origin) (sym is)
quota_here (x ∷ seats) (suc place) s few is = quota_here seats place s (omega arith) is

-- ---- a desk's turn

rose_by : (failed : Bool) (old new : History) (quota me : ℕ) (r : Request) (turn : Turn) (b n b' n' : ℕ)
    → (Rose b n → Rose b' n') → TurnedBy failed old new quota me false r turn b n → TurnedBy failed old new quota me false r turn b' n'
rose_by true old new quota me r turn b n b' n' rises turned = record { nothing = turned.nothing; rose = rises turned.rose }
rose_by false old new quota me r turn b n b' n' rises turned = turned

counts_of : (result : Result Turn DeskFault) (old new : History) (quota me : ℕ) (r : Request) (b n b' n' : ℕ)
    → (Rose b n → Rose b' n') → Turned old new quota me false r result b n → Turned old new quota me false r result b' n'
counts_of (Err NoMemory) old new quota me r b n b' n' rises turned = turned
counts_of (Ok turn) old new quota me r b n b' n' rises turned =
    rose_by (is_store_failed turn.reply) old new quota me r turn b n b' n' rises turned

-- what a turn of one seat has done is what the desk's turn has done
pub desk_turned : {V : Type 0} (seats : List (Sitting Record V)) (place : ℕ) (s s' : Sitting Record V) (h : History) (quota quota' : ℕ) (r : Request) (result : Result Turn DeskFault)
    → place < length seats → s ≡ get_or seats place s → h ≡ history_of (list_at seats place) → quota' ≡ quota
    → Turned (history_of s.list) (history_of s'.list) quota s.who false r result s.faults s'.faults
    → Turned h (history_of (list_at (set seats place s') place)) quota' (by_user (numbers_of seats) place) false r result
    (faults_in seats) (faults_in (set seats place s'))
desk_turned {V} seats place s s' h quota quota' r result few is stood same turned =
    let before = faults_in seats in
    let now = faults_in (set seats place s') in
    let me = by_user (numbers_of seats) place in
    let after = list_at (set seats place s') place in
    subst (λ (x : History). Turned x (history_of after) quota' me false r result before now) (sym (stood ∙ ap history_of (here_at seats place s few is)))
    (subst (λ (l : List (LogEntry Record)). Turned (history_of s.list) (history_of l) quota' me false r result before now) (sym (now_at seats place s' few))
    (subst (λ (n : ℕ). Turned (history_of s.list) (history_of s'.list) n me false r result before now) (sym same)
    (subst (λ (n : ℕ). Turned (history_of s.list) (history_of s'.list) quota n false r result before now) (sym (number_here seats place s few is))
    (counts_of result (history_of s.list) (history_of s'.list) quota s.who r s.faults s'.faults before now (rose_for_all seats place s s' few is) turned))))
