-- Where an event may stand in a journal.
use Rattle.std.specs.Prelude.{ℕ, Bool, true, false, not, ◌&&◌, ◌||◌, ◌==◌, nat_le, nat_lt, List, [], ◌∷◌, length, Option, Some, None, is_some, is_none}
use Rattle.std.specs.List.{list_any}
use Rattle.std.specs.Option.{option_eq, option_map}
use Rattle.std.specs.Str.{bytes_eq}
use mathlib.Core.Bool.{beq}
use Rattle.rs_path.specs.Limits.{max_body}
use Rattle.rs_path.specs.Paths.{Path}
use Rattle.rs_talk.specs.declared.base.Base.{Base}
use Rattle.rs_talk.specs.declared.change.Change.{Change}
use Rattle.rs_talk.specs.declared.change.Change.TheVariants.{Put, Remove}
use Rattle.rs_talk.specs.Changes.{same_change, is_removal, change_to}
use Rattle.rs_cache.specs.declared.conflict.Conflict.{Conflict}
use Rattle.rs_cache.specs.declared.event.Event.{Event}
use Rattle.rs_cache.specs.declared.event.Event.TheVariants.{Connect, Edit, Sent, Accepted, Absorbed, Held, Conflict as ConflictMade, Pulled, Gone, Settled, Unsettled, Resolved}
use Rattle.rs_cache.specs.declared.pending.Pending.{Pending}
use Rattle.rs_cache.specs.declared.resolve.Resolve.{Resolve}
use Rattle.rs_cache.specs.declared.resolve.Resolve.TheVariants.{Keep, Drop}
use Rattle.rs_cache.specs.Limits.{max_shown_body, max_journal}
use Rattle.rs_cache.specs.States.{State, base_at, pending_at, record_in, in_scope, is_doubted, is_sent}
use Rattle.rs_cache.specs.Views.{is_viewed, clash_of}

-- ---- what is asked of the parts

-- a document in scope
abbrev pub is_document_in : State → Path → Bool
is_document_in s path = not path.folder && in_scope s path

-- a folder in scope
abbrev pub is_folder_in : State → Path → Bool
is_folder_in s path = path.folder && in_scope s path

-- the change at the path has a place in the view: a Put clashes with nothing, a Remove finds its document
abbrev pub has_place_for : State → Path → Change → Bool
has_place_for s path (Put kind body) = is_none (clash_of s path)
has_place_for s path Remove = is_viewed s path

-- a body of an edit is within its limit
abbrev pub is_editable : Change → Bool
is_editable (Put kind body) = nat_le (length body) max_body
is_editable Remove = true

-- a body that the server showed is within its limit
abbrev pub is_showable : Option Base → Bool
is_showable None = true
is_showable (Some base) = nat_le (length base.body) max_shown_body

-- the tag of a document that may be there
abbrev pub tag_of : Option Base → Option (List ℕ)
tag_of base = option_map (λ (b : Base). b.tag) base

-- both are absent, or have the same tag
abbrev pub is_same_state : Option Base → Option Base → Bool
is_same_state base remote = option_eq bytes_eq (tag_of base) (tag_of remote)

-- there is a tag exactly where the change isn't a removal
abbrev pub fits_tag : Option (List ℕ) → Option Pending → Bool
fits_tag tag None = false
fits_tag tag (Some pending) = beq (is_none tag) (is_removal pending.change)

-- the server's answers that hold a change
abbrev pub holds_with : ℕ → Bool
holds_with status = list_any (λ held. status == held) (403 ∷ 409 ∷ 413 ∷ 414 ∷ 507 ∷ [])

-- the change that waits is this one
abbrev pub waits_for : Change → Option Pending → Bool
waits_for change None = false
waits_for change (Some pending) = same_change change pending.change

-- the server's state may become the base without an end of what waits: nothing waits, or the state is a doubt of the
-- path that isn't what waits
abbrev pub may_replace : State → Path → Option Base → Bool
may_replace s path remote = is_none (pending_at s path)
    || (is_doubted s path (change_to remote) && not (waits_for (change_to remote) (pending_at s path)))

-- a conflict may be resolved: it is there, and to keep a Put there must be a place for it
abbrev pub may_resolve : State → Resolve → Option Conflict → Bool
may_resolve s how None = false
may_resolve s Drop (Some conflict) = true
may_resolve s Keep (Some conflict) = is_removal conflict.local || is_none (clash_of s conflict.path)

-- ---- events

-- whether the event may stand after this state, its turn and number set aside
abbrev pub may_note : State → Event → Bool
may_note s (Connect root token scopes) = true
may_note s (Edit path change) = is_document_in s path && (is_editable change && has_place_for s path change)
may_note s (Sent path) = not path.folder && is_some (pending_at s path)
may_note s (Accepted path tag) = not path.folder && (is_sent s path && fits_tag tag (pending_at s path))
may_note s (Absorbed path tag) = not path.folder && fits_tag tag (pending_at s path)
may_note s (Held path status) = not path.folder && (is_sent s path && holds_with status)
may_note s (ConflictMade path remote) = not path.folder && (is_some (pending_at s path) && (is_showable remote
    && (not (is_same_state (base_at s path) remote) && not (waits_for (change_to remote) (pending_at s path)))))
may_note s (Pulled path base) = is_document_in s path && (is_showable (Some base)
    && (not (is_same_state (base_at s path) (Some base)) && may_replace s path (Some base)))
may_note s (Gone path) = not path.folder && (is_some (base_at s path) && may_replace s path None)
may_note s (Settled path tag) = is_folder_in s path
may_note s (Unsettled path) = is_folder_in s path
may_note s (Resolved n how) = may_resolve s how (record_in n s.records)

abbrev pub is_connect : Event → Bool
is_connect (Connect root token scopes) = true
is_connect event = false

-- the event may come next: there is room for it, a Connect comes first and nowhere else, and it may stand there
abbrev pub may_come : State → Event → Bool
may_come s event = nat_lt s.rows max_journal && (beq (is_connect event) (s.rows == 0) && may_note s event)
