-- When a journal is true of the server's history: what its events say, and what its state holds.
use Rattle.std.specs.Prelude.{◌≡◌, ℕ, true, false, List, [], ◌∷◌, Option, Some, None, decimal}
use Rattle.rs_path.specs.Paths.{Path}
use Rattle.rs_path.specs.Below.{is_below}
use Rattle.rs_rules.specs.Documents.{docs, has_below}
use Rattle.rs_rules.specs.Histories.{History, IsFront}
use Rattle.rs_rules.specs.Versions.{folder_version}
use Rattle.rs_talk.specs.declared.base.Base.{Base}
use Rattle.rs_cache.specs.declared.event.Event.{Event}
use Rattle.rs_cache.specs.declared.event.Event.TheVariants.{Accepted, Absorbed, Conflict as ConflictMade}
use Rattle.rs_cache.specs.States.{State, no_state, base_at, pending_at, kept_at}
use Rattle.rs_cache.specs.Effects.{base_by, after_event}
use Rattle.rs_cache.specs.Journals.{state_of}
use Rattle.rs_cache.specs.Points.{shown_at, IsEntered, IsTakenAway, IsShownIn}

-- ---- events

-- a change was accepted: a record of the history made it, behind the base before
abbrev pub IsAcceptedIn : Option Base → Path → Option Base → History → Type 0
IsAcceptedIn before path (Some base) h = IsEntered before path base h
IsAcceptedIn before path None h = IsTakenAway before path h

-- a change was found done: a record of the history made it, or at a point nothing was there
abbrev pub IsAbsorbedIn : Option Base → Path → Option Base → History → Type 0
IsAbsorbedIn before path (Some base) h = IsEntered before path base h
IsAbsorbedIn before path None h = IsShownIn before path None h

-- what an event says after this state is true of the history
abbrev pub IsEventTrue : State → Event → History → Type 0
IsEventTrue s (Accepted path tag) h = IsAcceptedIn (base_at s path) path (base_by tag (pending_at s path)) h
IsEventTrue s (Absorbed path tag) h = IsAbsorbedIn (base_at s path) path (base_by tag (pending_at s path)) h
IsEventTrue s (ConflictMade path remote) h = IsShownIn (base_at s path) path remote h
IsEventTrue s event h = Unit {0}

abbrev pub AllTrue : State → List Event → History → Type 0
AllTrue s [] h = Unit {0}
AllTrue s (event ∷ events) h = IsEventTrue s event h × AllTrue (after_event event s) events h

-- ---- states

-- below the folder the base is what the history shows
abbrev pub IsCopyBelow : State → Path → History → Type 0
IsCopyBelow s folder h = (path : Path) → is_below folder path ≡ true → path.folder ≡ false → base_at s path ≡ shown_at h path

-- at a point of the history the folder had this tag, and all below it was what the base is
pub record IsKeptIn (s : State) (folder : Path) (tag : List ℕ) (h : History) : Type 0 where
  pub past : History
  pub front : IsFront past h
  pub version : tag ≡ decimal (folder_version past folder)
  pub copy : IsCopyBelow s folder past

-- each folder with documents below the folder is kept at its version
abbrev pub IsKeptBelow : State → Path → History → Type 0
IsKeptBelow s folder h = (below : Path) → below.folder ≡ true → is_below folder below ≡ true → has_below below (docs h) ≡ true
    → kept_at s below ≡ Some (decimal (folder_version h below))

-- what the state holds is true of the history
pub record IsStateTrue (s : State) (h : History) : Type 0 where
  pub bases : (path : Path) (base : Base) → base_at s path ≡ Some base → IsEntered None path base h
  pub kept : (folder : Path) (tag : List ℕ) → kept_at s folder ≡ Some tag → IsKeptIn s folder tag h
  pub whole : (folder : Path) → kept_at s folder ≡ Some (decimal (folder_version h folder)) → IsKeptBelow s folder h

-- the journal is true of the history
pub record IsTrueOf (journal : List Event) (h : History) : Type 0 where
  pub events : AllTrue no_state journal h
  pub now : IsStateTrue (state_of journal) h
