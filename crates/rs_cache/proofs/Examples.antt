-- Journals, and the states that they leave: computed from the definitions alone.
use Rattle.std.proofs.Common.{◌≡◌, ℕ, true, false, List, [], ◌∷◌, ◌++◌, Some, None, refl}
use Rattle.std.specs.Prelude.{codes}
use Rattle.rs_path.specs.Paths.{Path, folder_at, document_at}
use Rattle.rs_scope.specs.declared.scope.Reach.TheVariants.{Star, Module}
use Rattle.rs_scope.specs.declared.scope.Scope.{Scope}
use Rattle.rs_talk.specs.declared.base.Base.{Base}
use Rattle.rs_talk.specs.declared.change.Change.{Change}
use Rattle.rs_talk.specs.declared.change.Change.TheVariants.{Put, Remove}
use Rattle.rs_cache.specs.declared.event.Event.{Event}
use Rattle.rs_cache.specs.declared.event.Event.TheVariants.{Connect, Edit, Sent, Accepted, Held, Conflict as ConflictMade, Pulled, Settled, Resolved}
use Rattle.rs_cache.specs.declared.resolve.Resolve.TheVariants.{Keep, Drop}
use Rattle.rs_cache.specs.States.{State, base_at, change_at, held_at, doubts_at, kept_at, record_in}
use Rattle.rs_cache.specs.Views.{view_at, viewed_paths, viewed_children, clash_of}
use Rattle.rs_cache.specs.Places.{may_come}
use Rattle.rs_cache.specs.Journals.{state_of}

-- ---- samples

abbrev scope : Scope
scope = record { reach = Star; write = true }

abbrev notes : Scope
notes = record { reach = Module (codes "notes"); write = true }

abbrev connect_with : Scope → Event
connect_with it = Connect (record { authority = codes "localhost"; path = codes "/storage/alice" }) (codes "T") (it ∷ [])

abbrev a : Path
a = document_at (codes "a" ∷ [])

abbrev b : Path
b = document_at (codes "b" ∷ [])

abbrev a_b : Path
a_b = document_at (codes "a" ∷ codes "b" ∷ [])

abbrev root : Path
root = folder_at []

abbrev plain : List ℕ
plain = codes "text/plain"

abbrev text : List ℕ → Change
text body = Put plain body

abbrev shown : List ℕ → List ℕ → Base
shown tag body = record { tag = tag; kind = plain; body = body }

abbrev state : List Event → State
state events = state_of (connect_with scope ∷ events)

abbrev v1 : List ℕ
v1 = codes "v1"

abbrev v2 : List ℕ
v2 = codes "v2"

abbrev v9 : List ℕ
v9 = codes "v9"

-- ---- edits

-- an edit is in the view, and not in the base
edited : view_at (state (Edit a (text v1) ∷ [])) a ≡ text v1
edited = refl

not_in_base : base_at (state (Edit a (text v1) ∷ [])) a ≡ None
not_in_base = refl

-- a removal hides the base, which stays
removed : viewed_paths (state (Pulled a (shown (codes "2") v1) ∷ Pulled b (shown (codes "3") v1) ∷ Edit a Remove ∷ [])) ≡ b ∷ []
removed = refl

still_in_base : base_at (state (Pulled a (shown (codes "2") v1) ∷ Edit a Remove ∷ [])) a ≡ Some (shown (codes "2") v1)
still_in_base = refl

-- a folder shows its documents and its folders
listed : viewed_children (state (Edit a_b (text v1) ∷ Edit b (text v1) ∷ [])) root
    ≡ record { name = codes "a"; folder = true } ∷ record { name = codes "b"; folder = false } ∷ []
listed = refl

-- ---- a push

-- what was accepted is the base; nothing waits or is in doubt any more
accepted_base : base_at (state (Edit a (text v1) ∷ Sent a ∷ Accepted a (Some (codes "2")) ∷ [])) a ≡ Some (shown (codes "2") v1)
accepted_base = refl

accepted_change : change_at (state (Edit a (text v1) ∷ Sent a ∷ Accepted a (Some (codes "2")) ∷ [])) a ≡ None
accepted_change = refl

accepted_doubts : doubts_at (state (Edit a (text v1) ∷ Sent a ∷ Accepted a (Some (codes "2")) ∷ [])) a ≡ []
accepted_doubts = refl

-- an older doubt stays beside a newer one, and each is there once
doubts : doubts_at (state (Edit a (text v1) ∷ Sent a ∷ Sent a ∷ Edit a (text v2) ∷ Sent a ∷ [])) a ≡ text v1 ∷ text v2 ∷ []
doubts = refl

-- a change is held until the next one
held : held_at (state (Edit a (text v1) ∷ Sent a ∷ Held a 507 ∷ [])) a ≡ Some 507
held = refl

held_no_more : held_at (state (Edit a (text v1) ∷ Sent a ∷ Held a 507 ∷ Edit a (text v2) ∷ [])) a ≡ None
held_no_more = refl

-- ---- folders

kept : kept_at (state (Settled root (codes "4") ∷ [])) root ≡ Some (codes "4")
kept = refl

-- a base below ends what is kept, an edit doesn't
kept_no_more : kept_at (state (Settled root (codes "4") ∷ Pulled a (shown (codes "5") v1) ∷ [])) root ≡ None
kept_no_more = refl

kept_over_edit : kept_at (state (Settled root (codes "4") ∷ Edit a (text v1) ∷ [])) root ≡ Some (codes "4")
kept_over_edit = refl

-- ---- a conflict

abbrev conflict : List Event
conflict = Edit a (text v1) ∷ Sent a ∷ ConflictMade a (Some (shown (codes "3") v9)) ∷ []

-- the record has both, and the base is the server's
recorded : record_in 1 (state conflict).records ≡ Some (record { n = 1; path = a; local = text v1; remote = Some (shown (codes "3") v9) })
recorded = refl

conflict_base : view_at (state conflict) a ≡ text v9
conflict_base = refl

-- to keep is to edit again, to drop is not
kept_change : change_at (state (conflict ++ Resolved 1 Keep ∷ [])) a ≡ Some (text v1)
kept_change = refl

dropped_change : change_at (state (conflict ++ Resolved 1 Drop ∷ [])) a ≡ None
dropped_change = refl

resolved : record_in 1 (state (conflict ++ Resolved 1 Keep ∷ [])).records ≡ None
resolved = refl

-- resolved again, or with a number that no conflict has: unlawful
again : may_come (state (conflict ++ Resolved 1 Keep ∷ [])) (Resolved 1 Drop) ≡ false
again = refl

-- ---- where events may stand

connected_once : may_come (state []) (connect_with scope) ≡ false
connected_once = refl

connected_first : may_come (state_of []) (Edit a (text v1)) ≡ false
connected_first = refl

in_scope : may_come (state []) (Edit a (text v1)) ≡ true
in_scope = refl

out_of_scope : may_come (state_of (connect_with notes ∷ [])) (Edit a (text v1)) ≡ false
out_of_scope = refl

-- below a document, and at the names of a folder, there is no place for a document
clash_above : clash_of (state (Edit a (text v1) ∷ [])) a_b ≡ Some a
clash_above = refl

clash_below : clash_of (state (Edit a_b (text v1) ∷ [])) a ≡ Some a_b
clash_below = refl

no_place : may_come (state (Edit a (text v1) ∷ [])) (Edit a_b (text v1)) ≡ false
no_place = refl

-- nothing is there to be removed
nothing_there : may_come (state []) (Edit a Remove) ≡ false
nothing_there = refl

-- only what was sent is accepted, with a tag just where it isn't a removal
not_sent : may_come (state (Edit a (text v1) ∷ [])) (Accepted a (Some (codes "2"))) ≡ false
not_sent = refl

no_tag : may_come (state (Edit a (text v1) ∷ Sent a ∷ [])) (Accepted a None) ≡ false
no_tag = refl

with_tag : may_come (state (Edit a (text v1) ∷ Sent a ∷ [])) (Accepted a (Some (codes "2"))) ≡ true
with_tag = refl

-- a conflict is none with the change itself, nor with the base
own_change : may_come (state (Edit a (text v1) ∷ [])) (ConflictMade a (Some (shown (codes "3") v1))) ≡ false
own_change = refl

own_base : may_come (state (Pulled a (shown (codes "2") v9) ∷ Edit a (text v1) ∷ [])) (ConflictMade a (Some (shown (codes "2") v9))) ≡ false
own_base = refl

-- what is pulled doesn't replace a change that waits, unless it is an older doubt
over_change : may_come (state (Edit a (text v1) ∷ [])) (Pulled a (shown (codes "2") v9)) ≡ false
over_change = refl

older_doubt : may_come (state (Edit a (text v1) ∷ Sent a ∷ Edit a (text v2) ∷ [])) (Pulled a (shown (codes "2") v1)) ≡ true
older_doubt = refl

-- a document isn't settled, and a folder isn't edited
document_settled : may_come (state []) (Settled a (codes "2")) ≡ false
document_settled = refl

folder_edited : may_come (state []) (Edit root (text v1)) ≡ false
folder_edited = refl
