-- Lawful histories: each record stands rightly after those before it. Conditions, quota, and who may make a record
-- without a writer are set aside (own).
use Rattle.std.specs.Prelude.{◌≡◌, ℕ, ◌≤◌, Bool, true, false, not, ◌&&◌, nat_le, List, [], ◌∷◌, length, Option, Some, None, is_some, is_none, IsTrue}
use Rattle.rs_path.specs.Paths.{Path}
use Rattle.rs_path.specs.declared.log_entry.LogEntry.{LogEntry}
use Rattle.rs_scope.specs.declared.method.Method.{Method}
use Rattle.rs_scope.specs.declared.method.Method.TheVariants.{Put as PutMethod, Delete}
use Rattle.rs_scope.specs.declared.scope.Scope.{Scope}
use Rattle.rs_scope.specs.Reach.{reach_of}
use Rattle.rs_record.specs.declared.records.Record.{Record}
use Rattle.rs_record.specs.declared.records.Record.TheVariants.{Put, Remove, Grant, Revoke}
use Rattle.rs_record.specs.Records.{body_limit}
use Rattle.rs_rules.specs.Limits.{max_len}
use Rattle.rs_rules.specs.Histories.{Base, empty_base, History, start, len, with_entry}
use Rattle.rs_rules.specs.Documents.{doc_in}
use Rattle.rs_rules.specs.Clashes.{clash_in, full_in}
use Rattle.rs_rules.specs.Snapshots.{Snapshot, snapshot}

-- scopes are there, and they reach
abbrev pub scopes_reach : Option (List Scope) → Method → Path → Bool
scopes_reach None method path = false
scopes_reach (Some scopes) method path = reach_of scopes method path

-- the writer, where there is one, is granted with scopes that reach
abbrev pub writer_may : Snapshot → Option (List ℕ) → Method → Path → Bool
writer_may s None method path = true
writer_may s (Some token) method path = scopes_reach (s.scopes token) method path

-- the record stands rightly after what the snapshot shows
abbrev pub may_follow : Snapshot → Record → Bool
may_follow s (Put path kind body writer) = not path.folder
    && (nat_le (length body) (body_limit writer)
    && (is_none (clash_in s.contents.docs path)
    && (is_none (full_in s.contents.docs path)
    && writer_may s writer PutMethod path)))
may_follow s (Remove path writer) = is_some (doc_in path s.contents.docs) && writer_may s writer Delete path
may_follow s (Grant token scopes) = is_none (s.scopes token)
may_follow s (Revoke token) = is_some (s.scopes token)

-- each entry stands rightly after the history and the entries before it
abbrev pub AllFollow : History → List (LogEntry Record) → Type 0
AllFollow h [] = Unit {0}
AllFollow h (e ∷ es) = IsTrue (may_follow (snapshot h) e.what) × AllFollow (with_entry h e) es

-- a base that lawful records can leave
abbrev pub IsLawfulBase : Base → Type 0
IsLawfulBase b = b ≡ empty_base

pub record IsLawful (h : History) : Type 0 where
  pub base : IsLawfulBase h.base
  pub each : AllFollow (start h.base) h.entries
  pub few : len h ≤ max_len
