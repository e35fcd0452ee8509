-- What the commands that show answer of a client's state; None where there is no such document.
use Rattle.std.specs.Prelude.{ℕ, List, Option, Some, None, option_map}
use Rattle.rs_path.specs.Paths.{Path}
use Rattle.rs_talk.specs.declared.change.Change.{Change}
use Rattle.rs_talk.specs.declared.change.Change.TheVariants.{Put, Remove}
use Rattle.rs_cache.specs.declared.connection.Connection.{Connection}
use Rattle.rs_cache.specs.States.{State}
use Rattle.rs_cache.specs.Views.{view_at}
use Rattle.rs_cache.specs.Lists.{shown_children}
use Rattle.rs_cache.specs.Asked.{summary_of}
use Rattle.rs_client.specs.Texts.{listing_text, summary_text, conflicts_text}

-- the body that the change leaves
abbrev pub body_left : Change → Option (List ℕ)
body_left (Put kind body) = Some body
body_left Remove = None

-- the body of the document at the path in the view
abbrev pub shown_document : Path → State → Option (List ℕ)
shown_document path s = body_left (view_at s path)

-- the names in the folder in the view
abbrev pub shown_listing : Path → State → Option (List ℕ)
shown_listing folder s = Some (listing_text (shown_children s folder))

-- the root of the account, and how much the client has
abbrev pub shown_summary : State → Option (List ℕ)
shown_summary s = option_map (λ (connection : Connection). summary_text connection.root (summary_of s)) s.connection

-- the conflicts that aren't resolved
abbrev pub shown_conflicts : State → Option (List ℕ)
shown_conflicts s = Some (conflicts_text s.records)
