-- Which events have a row that is read back: a document's path where one is wanted, and bodies within their limits.
use Rattle.std.specs.Prelude.{◌≡◌, ◌≤◌, false, List, length, Option, Some, None}
use Rattle.rs_path.specs.Limits.{max_body}
use Rattle.rs_talk.specs.declared.base.Base.{Base}
use Rattle.rs_talk.specs.declared.change.Change.{Change}
use Rattle.rs_talk.specs.declared.change.Change.TheVariants.{Put, Remove}
use Rattle.rs_cache.specs.declared.event.Event.{Event}
use Rattle.rs_cache.specs.declared.event.Event.TheVariants.{Connect, Edit, Sent, Accepted, Absorbed, Held, Conflict as ConflictMade, Pulled, Gone, Settled, Unsettled, Resolved}
use Rattle.rs_cache.specs.Limits.{max_shown_body}

-- the body of an edit is within its limit
abbrev pub IsShortChange : Change → Type 0
IsShortChange (Put kind body) = length body ≤ max_body
IsShortChange Remove = Unit {0}

-- the body that the server showed is within its limit
abbrev pub IsShortRemote : Option Base → Type 0
IsShortRemote None = Unit {0}
IsShortRemote (Some base) = length base.body ≤ max_shown_body

-- the event has a row that is read as the event
abbrev pub IsSpellable : Event → Type 0
IsSpellable (Edit path change) = (path.folder ≡ false) × IsShortChange change
IsSpellable (Sent path) = path.folder ≡ false
IsSpellable (Accepted path tag) = path.folder ≡ false
IsSpellable (Absorbed path tag) = path.folder ≡ false
IsSpellable (Held path status) = path.folder ≡ false
IsSpellable (ConflictMade path remote) = (path.folder ≡ false) × IsShortRemote remote
IsSpellable (Pulled path base) = (path.folder ≡ false) × IsShortRemote (Some base)
IsSpellable (Gone path) = path.folder ≡ false
IsSpellable event = Unit {0}
