-- The row that keeps an event: its spelling. Numbers are big-endian.
use Rattle.std.specs.Prelude.{◌≡◌, ℕ, List, [], ◌∷◌, ◌++◌, Option, Some, None}
use Rattle.std.specs.Int.{w16, w64, to_be_bytes}
use Rattle.rs_path.specs.Paths.{Path, plain_text}
use Rattle.rs_scope.specs.Scopes.{scopes_text}
use Rattle.rs_talk.specs.declared.base.Base.{Base}
use Rattle.rs_talk.specs.declared.change.Change.{Change}
use Rattle.rs_talk.specs.declared.change.Change.TheVariants.{Put, Remove}
use Rattle.rs_talk.specs.Roots.{root_text}
use Rattle.rs_row.specs.RowTexts.{behind_1, behind_2, behind_4}
use Rattle.rs_cache.specs.declared.event.Event.{Event}
use Rattle.rs_cache.specs.declared.event.Event.TheVariants.{Connect, Edit, Sent, Accepted, Absorbed, Held, Conflict as ConflictMade, Pulled, Gone, Settled, Unsettled, Resolved}
use Rattle.rs_cache.specs.declared.resolve.Resolve.{Resolve}
use Rattle.rs_cache.specs.declared.resolve.Resolve.TheVariants.{Keep, Drop}

-- the format, and the number of the event's kind
abbrev pub row_start : ℕ → List ℕ
row_start kind = 1 ∷ kind ∷ []

-- a path's plain text
abbrev pub path_bytes : Path → List ℕ
path_bytes path = behind_2 (plain_text path)

-- an entity tag, or nothing with the length 0
abbrev pub tag_bytes : Option (List ℕ) → List ℕ
tag_bytes None = behind_1 []
tag_bytes (Some tag) = behind_1 tag

-- a content type and a body
abbrev pub content_bytes : List ℕ → List ℕ → List ℕ
content_bytes kind body = behind_1 kind ++ behind_4 body

-- 1 and the content, or 2
abbrev pub change_bytes : Change → List ℕ
change_bytes (Put kind body) = 1 ∷ content_bytes kind body
change_bytes Remove = 2 ∷ []

-- a document, or the tag's length 0 where there is none
abbrev pub base_bytes : Base → List ℕ
base_bytes base = behind_1 base.tag ++ content_bytes base.kind base.body

abbrev pub remote_bytes : Option Base → List ℕ
remote_bytes None = behind_1 []
remote_bytes (Some base) = base_bytes base

abbrev pub resolve_byte : Resolve → ℕ
resolve_byte Keep = 1
resolve_byte Drop = 2

-- the row of an event
abbrev pub event_row : Event → List ℕ
event_row (Connect root token scopes) = row_start 16 ++ (behind_2 (root_text root) ++ (behind_2 token ++ behind_2 (scopes_text scopes)))
event_row (Edit path change) = row_start 17 ++ (path_bytes path ++ change_bytes change)
event_row (Sent path) = row_start 18 ++ path_bytes path
event_row (Accepted path tag) = row_start 19 ++ (path_bytes path ++ tag_bytes tag)
event_row (Absorbed path tag) = row_start 20 ++ (path_bytes path ++ tag_bytes tag)
event_row (Held path status) = row_start 21 ++ (path_bytes path ++ to_be_bytes w16 status)
event_row (ConflictMade path remote) = row_start 22 ++ (path_bytes path ++ remote_bytes remote)
event_row (Pulled path base) = row_start 23 ++ (path_bytes path ++ base_bytes base)
event_row (Gone path) = row_start 24 ++ path_bytes path
event_row (Settled path tag) = row_start 25 ++ (path_bytes path ++ behind_1 tag)
event_row (Unsettled path) = row_start 26 ++ path_bytes path
event_row (Resolved n how) = row_start 27 ++ (to_be_bytes w64 n ++ resolve_byte how ∷ [])

-- the row is that of the event, where there is one
abbrev pub SpellsRow : List ℕ → Option Event → Type 0
SpellsRow row None = Unit {0}
SpellsRow row (Some event) = event_row event ≡ row
