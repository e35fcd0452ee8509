-- What the types of an event's parts promise, and what else it needs to have a row that is read back.
use Rattle.std.specs.Prelude.{◌≡◌, ℕ, ◌^◌, ◌<◌, ◌≤◌, true, false, List, length, Option, Some, None, Ok}
use Rattle.rs_path.specs.Kinds.{is_kind}
use Rattle.rs_path.specs.Limits.{max_body}
use Rattle.rs_path.specs.Paths.{Path, is_path}
use Rattle.rs_path.specs.Tags.{is_tag}
use Rattle.rs_scope.specs.Scopes.{is_scopes}
use Rattle.rs_talk.specs.declared.base.Base.{Base}
use Rattle.rs_talk.specs.declared.change.Change.{Change}
use Rattle.rs_talk.specs.declared.change.Change.TheVariants.{Put, Remove}
use Rattle.rs_talk.specs.Bearers.{is_bearer}
use Rattle.rs_talk.specs.Roots.{root_text, root_reading}
use Rattle.rs_cache.specs.declared.event.Event.{Event}
use Rattle.rs_cache.specs.declared.event.Event.TheVariants.{Connect, Edit, Sent, Accepted, Absorbed, Held, Conflict as ConflictMade, Pulled, Gone, Settled, Unsettled, Resolved}
use Rattle.rs_cache.specs.Limits.{max_shown_body}

-- a document's path
abbrev pub IsDocumentPath : Path → Type 0
IsDocumentPath path = (is_path path ≡ true) × (path.folder ≡ false)

-- an entity tag, where there is one
abbrev pub HasTagPart : Option (List ℕ) → Type 0
HasTagPart None = Unit {0}
HasTagPart (Some tag) = is_tag tag ≡ true

-- a content type, and a body of an edit
abbrev pub HasChangeParts : Change → Type 0
HasChangeParts (Put kind body) = (is_kind kind ≡ true) × (length body ≤ max_body)
HasChangeParts Remove = Unit {0}

-- an entity tag, a content type, and a body that the server showed
abbrev pub HasBaseParts : Base → Type 0
HasBaseParts base = (is_tag base.tag ≡ true) × (is_kind base.kind ≡ true) × (length base.body ≤ max_shown_body)

abbrev pub HasRemoteParts : Option Base → Type 0
HasRemoteParts None = Unit {0}
HasRemoteParts (Some base) = HasBaseParts base

-- each part is one, and an event has a row
abbrev pub HasEventParts : Event → Type 0
HasEventParts (Connect root token scopes) =
    (root_reading (root_text root) ≡ Ok root) × (length (root_text root) < 2 ^ 16) × (is_bearer token ≡ true) × (is_scopes scopes ≡ true)
HasEventParts (Edit path change) = IsDocumentPath path × HasChangeParts change
HasEventParts (Sent path) = IsDocumentPath path
HasEventParts (Accepted path tag) = IsDocumentPath path × HasTagPart tag
HasEventParts (Absorbed path tag) = IsDocumentPath path × HasTagPart tag
HasEventParts (Held path status) = IsDocumentPath path × (status < 2 ^ 16)
HasEventParts (ConflictMade path remote) = IsDocumentPath path × HasRemoteParts remote
HasEventParts (Pulled path base) = IsDocumentPath path × HasBaseParts base
HasEventParts (Gone path) = IsDocumentPath path
HasEventParts (Settled path tag) = (is_path path ≡ true) × (is_tag tag ≡ true)
HasEventParts (Unsettled path) = is_path path ≡ true
HasEventParts (Resolved n how) = n < 2 ^ 64
