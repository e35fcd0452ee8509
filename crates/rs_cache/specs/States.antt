-- The state of a client.
use Rattle.std.specs.Prelude.{ℕ, Bool, false, not, ◌==◌, List, [], filter, find, Option, Some, None, option_map, unwrap_or}
use Rattle.std.specs.List.{list_any}
use Rattle.rs_path.specs.Paths.{Path}
use Rattle.rs_scope.specs.declared.scope.Scope.{Scope}
use Rattle.rs_scope.specs.Reach.{is_within}
use Rattle.rs_scope.specs.Roots.{roots_of}
use Rattle.rs_talk.specs.declared.base.Base.{Base}
use Rattle.rs_talk.specs.declared.change.Change.{Change}
use Rattle.rs_talk.specs.Changes.{same_change}
use Rattle.rs_cache.specs.declared.connection.Connection.{Connection}
use Rattle.rs_cache.specs.declared.conflict.Conflict.{Conflict}
use Rattle.rs_cache.specs.declared.pending.Pending.{Pending}
use Rattle.rs_cache.specs.Entries.{at_path}

-- what a client knows: where it is connected to; by path the document that was last synchronised, the change that
-- wasn't yet, and the changes that were sent since; by folder the entity tag at which all below it is known; the
-- conflicts that aren't resolved, how many there were, and how many events
pub record State : Type 0 where
  pub connection : Option Connection
  pub base : List (Path × Base)
  pub pending : List (Path × Pending)
  pub doubts : List (Path × List Change)
  pub kept : List (Path × List ℕ)
  pub records : List Conflict
  pub made : ℕ
  pub rows : ℕ

-- before the first event
abbrev pub no_state : State
no_state = record {
  connection = None;
  base = [];
  pending = [];
  doubts = [];
  kept = [];
  records = [];
  made = 0;
  rows = 0;
}

-- the document at the path that was last synchronised
abbrev pub base_at : State → Path → Option Base
base_at s path = at_path path s.base

-- the change at the path that wasn't synchronised yet, and the status that it is held with
abbrev pub pending_at : State → Path → Option Pending
pending_at s path = at_path path s.pending

-- that change
abbrev pub change_at : State → Path → Option Change
change_at s path = option_map (λ (p : Pending). p.change) (pending_at s path)

-- the status that it is held with
abbrev pub held_by : Option Pending → Option ℕ
held_by None = None
held_by (Some pending) = pending.held

abbrev pub held_at : State → Path → Option ℕ
held_at s path = held_by (pending_at s path)

-- the changes at the path that were sent since its base last changed
abbrev pub doubts_at : State → Path → List Change
doubts_at s path = unwrap_or (at_path path s.doubts) []

-- the entity tag of the folder at which all below it is known
abbrev pub kept_at : State → Path → Option (List ℕ)
kept_at s folder = at_path folder s.kept

-- the conflict with this number
abbrev pub record_in : ℕ → List Conflict → Option Conflict
record_in n records = find (λ (r : Conflict). r.n == n) records

-- the conflicts with other numbers
abbrev pub drop_record : ℕ → List Conflict → List Conflict
drop_record n records = filter (λ (r : Conflict). not (r.n == n)) records

-- ---- scopes

-- one of the folders is the path, or the path is below it
abbrev pub is_held : List Path → Path → Bool
is_held roots path = list_any (λ root. is_within root path) roots

-- the scopes of the connection, where there is one
abbrev pub scopes_by : Option Connection → List Scope
scopes_by None = []
scopes_by (Some connection) = connection.scopes

-- the path is in scope: a root of the scopes holds it
abbrev pub in_scope : State → Path → Bool
in_scope s path = is_held (roots_of (scopes_by s.connection)) path

-- ---- doubts

-- the change is among the doubts of the path
abbrev pub is_doubted : State → Path → Change → Bool
is_doubted s path change = list_any (same_change change) (doubts_at s path)

-- the change, where there is one, is among the doubts
abbrev pub is_doubted_by : State → Path → Option Pending → Bool
is_doubted_by s path None = false
is_doubted_by s path (Some pending) = is_doubted s path pending.change

-- the pending change is among the doubts
abbrev pub is_sent : State → Path → Bool
is_sent s path = is_doubted_by s path (pending_at s path)
