-- Where events may stand, from what was tested one by one; what may stand has a row.
use Rattle.std.proofs.Common.{◌≡◌, ℕ, ◌<◌, ◌≤◌, Bool, true, false, not, ◌&&◌, ◌||◌, ◌==◌, nat_le, nat_lt, List, length, Option, Some, None, is_none, is_some, option_map, arith, refl, sym, ap, ◌∙◌}
use Rattle.std.proofs.lemmas.Bool.{and_parts, and_from, true≢false, false≢true, cond-true, cond-false}
use Rattle.std.proofs.lemmas.Bool.Decides.{nat_tests}
use mathlib.Core.Bool.{beq}
use Rattle.rs_path.specs.Paths.{Path}
use Rattle.rs_talk.specs.declared.base.Base.{Base}
use Rattle.rs_talk.specs.declared.change.Change.{Change}
use Rattle.rs_talk.specs.declared.change.Change.TheVariants.{Put, Remove}
use Rattle.rs_talk.specs.Changes.{is_removal}
use Rattle.rs_cache.specs.declared.cache_fault.CacheFault.{CacheFault}
use Rattle.rs_cache.specs.declared.cache_fault.CacheFault.TheVariants.{Clash}
use Rattle.rs_cache.specs.declared.conflict.Conflict.{Conflict}
use Rattle.rs_cache.specs.declared.event.Event.{Event}
use Rattle.rs_cache.specs.declared.event.Event.TheVariants.{Connect, Edit, Sent, Accepted, Absorbed, Held, Conflict as ConflictMade, Pulled, Gone, Settled, Unsettled, Resolved}
use Rattle.rs_cache.specs.declared.resolve.Resolve.{Resolve}
use Rattle.rs_cache.specs.declared.resolve.Resolve.TheVariants.{Keep, Drop}
use Rattle.rs_cache.specs.States.{State, pending_at, record_in, in_scope}
use Rattle.rs_cache.specs.Views.{is_viewed, clash_of}
use Rattle.rs_cache.specs.Places.{is_editable, is_showable, has_place_for, may_note, may_come, may_resolve, is_connect, is_document_in}
use Rattle.rs_cache.specs.Refusals.{keep_refusal}
use Rattle.rs_cache.specs.Spellable.{IsShortChange, IsShortRemote, IsSpellable}

not_folder : (b : Bool) → not b ≡ true → b ≡ false
not_folder true is = absurd (false≢true is)
not_folder false is = refl

-- ---- a row

short_change : (change : Change) → is_editable change ≡ true → IsShortChange change
short_change (Put kind body) is = grind (arith, nat_tests, is)
short_change Remove is = tt

short_remote : (remote : Option Base) → is_showable remote ≡ true → IsShortRemote remote
short_remote None is = tt
short_remote (Some base) is = grind (arith, nat_tests, is)

-- what may stand after a state has a row
pub spellable-from : (s : State) (event : Event) → may_note s event ≡ true → IsSpellable event
spellable-from s (Connect root token scopes) may = tt
spellable-from s (Edit path change) may =
    let parts = and_parts (is_document_in s path) (is_editable change && has_place_for s path change) may in
    let first = and_parts (not path.folder) (in_scope s path) parts.0 in
    let second = and_parts (is_editable change) (has_place_for s path change) parts.1 in
    (not_folder path.folder first.0, short_change change second.0)
spellable-from s (Sent path) may = not_folder path.folder (and_parts (not path.folder) _ may).0
spellable-from s (Accepted path tag) may = not_folder path.folder (and_parts (not path.folder) _ may).0
spellable-from s (Absorbed path tag) may = not_folder path.folder (and_parts (not path.folder) _ may).0
spellable-from s (Held path status) may = not_folder path.folder (and_parts (not path.folder) _ may).0
spellable-from s (ConflictMade path remote) may =
    let first = and_parts (not path.folder) _ may in
    let second = and_parts (is_some (pending_at s path)) _ first.1 in
    let third = and_parts (is_showable remote) _ second.1 in
    (not_folder path.folder first.0, short_remote remote third.0)
spellable-from s (Pulled path base) may =
    let first = and_parts (is_document_in s path) _ may in
    let second = and_parts (not path.folder) (in_scope s path) first.0 in
    let third = and_parts (is_showable (Some base)) _ first.1 in
    (not_folder path.folder second.0, short_remote (Some base) third.0)
spellable-from s (Gone path) may = not_folder path.folder (and_parts (not path.folder) _ may).0
spellable-from s (Settled path tag) may = tt
spellable-from s (Unsettled path) may = tt
spellable-from s (Resolved n how) may = tt

-- ---- the calls

pub edit-lawful : (s : State) (path : Path) (kind body : List ℕ) → path.folder ≡ false → in_scope s path ≡ true → length body ≤ 67108864 → clash_of s path ≡ None
    → may_note s (Edit path (Put kind body)) ≡ true
edit-lawful s path kind body document scope short free =
    let fits : nat_le (length body) 67108864 ≡ true = grind (arith, nat_tests, short) in
    and_from _ _ (and_from _ _ (ap not document) scope) (and_from _ _ fits (ap is_none free))

pub remove-lawful : (s : State) (path : Path) → path.folder ≡ false → in_scope s path ≡ true → is_viewed s path ≡ true → may_note s (Edit path Remove) ≡ true
remove-lawful s path document scope viewed = and_from _ _ (and_from _ _ (ap not document) scope) viewed

kept_place : (removal : Bool) (o : Option Path) → ((removal ≡ false) → o ≡ None) → (removal || is_none o) ≡ true
kept_place true o free = refl
kept_place false o free = ap is_none (free refl)

clash_none : (o : Option Path) → option_map (λ other. Clash other) o ≡ None → o ≡ None
clash_none None none = refl
clash_none (Some other) none = absurd (cc)

pub resolve-lawful : (s : State) (n : ℕ) (how : Resolve) (conflict : Conflict) → record_in n s.records ≡ Some conflict → keep_refusal s how conflict ≡ None
    → may_note s (Resolved n how) ≡ true
resolve-lawful s n Drop conflict there free = ap (may_resolve s Drop) there
resolve-lawful s n Keep conflict there free =
    ap (may_resolve s Keep) there
    ∙ kept_place (is_removal conflict.local) (clash_of s conflict.path)
    (λ put. clash_none (clash_of s conflict.path) (sym (cond-false (is_removal conflict.local) _ _ put) ∙ free))

-- ---- the turn

pub turn-behind : (event : Event) (rows : ℕ) → is_connect event ≡ false → 0 < rows → is_connect event ≡ (rows == 0)
turn-behind event rows other some = let later : (rows == 0) ≡ false = grind (arith, nat_tests, some) in other ∙ sym later

pub turn-first : (event : Event) (rows : ℕ) → is_connect event ≡ true → rows ≡ 0 → is_connect event ≡ (rows == 0)
turn-first event rows connects none = let first : (rows == 0) ≡ true = grind (arith, nat_tests, none) in connects ∙ sym first

same_flag : (a b : Bool) → a ≡ b → beq a b ≡ true
same_flag true true same = refl
same_flag true false same = absurd (true≢false same)
same_flag false true same = absurd (false≢true same)
same_flag false false same = refl

-- an event in its turn that may stand there, where there is room, may come
pub may_come-from : (s : State) (event : Event) → s.rows < 4294967295 → is_connect event ≡ (s.rows == 0) → may_note s event ≡ true → may_come s event ≡ true
may_come-from s event room turn may =
    let enough : nat_lt s.rows 4294967295 ≡ true = grind (arith, nat_tests, room) in
    and_from _ _ enough (and_from _ _ (same_flag (is_connect event) (s.rows == 0) turn) may)

flags_same : (a b : Bool) → beq a b ≡ true → a ≡ b
flags_same true true same = refl
flags_same true false same = absurd (false≢true same)
flags_same false true same = absurd (false≢true same)
flags_same false false same = refl

-- there is room for what may come, and it comes in its turn
pub may-room : (s : State) (event : Event) → may_come s event ≡ true → s.rows < 4294967295
may-room s event may =
    let room = (and_parts (nat_lt s.rows 4294967295) (beq (is_connect event) (s.rows == 0) && may_note s event) may).0 in
    grind (arith, nat_tests, room)

pub may-turn : (s : State) (event : Event) → may_come s event ≡ true → is_connect event ≡ (s.rows == 0)
may-turn s event may =
    let turn = (and_parts (nat_lt s.rows 4294967295) (beq (is_connect event) (s.rows == 0) && may_note s event) may).1 in
    flags_same (is_connect event) (s.rows == 0) (and_parts (beq (is_connect event) (s.rows == 0)) (may_note s event) turn).0
