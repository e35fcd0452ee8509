-- How a row of a journal is read: the event, None where what it spells is an event nowhere, or the place of its fault.
use Rattle.std.specs.Prelude.{ℕ, ◌+◌, ◌==◌, List, [], ◌∷◌, Option, Some, None, Result, Ok, Err, if◌then◌else◌}
use Rattle.std.specs.Str.{bytes_eq}
use Rattle.rs_path.specs.Limits.{max_body}
use Rattle.rs_path.specs.Paths.{Path}
use Rattle.rs_talk.specs.declared.base.Base.{Base}
use Rattle.rs_talk.specs.declared.change.Change.{Change}
use Rattle.rs_talk.specs.declared.change.Change.TheVariants.{Put, Remove}
use Rattle.rs_talk.specs.declared.root_fault.RootFault.{RootFault}
use Rattle.rs_talk.specs.Bearers.{is_bearer}
use Rattle.rs_talk.specs.Roots.{Root, root_text, root_reading}
use Rattle.rs_row.specs.declared.row_fault.RowFault.{RowFault}
use Rattle.rs_row.specs.declared.row_fault.RowFault.TheVariants.{Bad}
use Rattle.rs_row.specs.RowFields.{RowField, ◌>>>◌, path_meant, document_meant, kind_meant, optional_tag_meant, scopes_meant, meant_1_in, meant_2_in, u16_in, u64_in, byte_meant, body_in, whole}
use Rattle.rs_cache.specs.declared.event.Event.{Event}
use Rattle.rs_cache.specs.declared.event.Event.TheVariants.{Connect, Edit, Sent, Accepted, Absorbed, Held, Conflict as ConflictMade, Pulled, Gone, Settled, Unsettled, Resolved}
use Rattle.rs_cache.specs.declared.resolve.Resolve.{Resolve}
use Rattle.rs_cache.specs.declared.resolve.Resolve.TheVariants.{Keep, Drop}
use Rattle.rs_cache.specs.Limits.{max_shown_body}

-- ---- texts and bytes

-- the root whose address is written as just this text
abbrev pub root_if_written : List ℕ → Result Root RootFault → Option Root
root_if_written text (Ok root) = if bytes_eq (root_text root) text then Some root else None
root_if_written text (Err fault) = None

abbrev pub root_meant : List ℕ → Option Root
root_meant text = root_if_written text (root_reading text)

abbrev pub bearer_meant : List ℕ → Option (List ℕ)
bearer_meant text = if is_bearer text then Some text else None

-- how a conflict is resolved, by its byte
abbrev pub resolve_meant : ℕ → Option Resolve
resolve_meant byte = if byte == 1 then Some Keep else (if byte == 2 then Some Drop else None)

-- ---- fields

-- a content type and a body of at most so many bytes
pub record Content : Type 0 where
  pub kind : List ℕ
  pub body : List ℕ

abbrev pub content_in : ℕ → ℕ → List ℕ → Result (RowField Content) RowFault
content_in limit place row = meant_1_in kind_meant place row >>> (λ kind. body_in limit kind.place kind.rest
    >>> (λ body. Ok (record { value = record { kind = kind.value; body = body.value }; place = body.place; rest = body.rest })))

-- the content of a Put
abbrev pub put_in : ℕ → List ℕ → Result (RowField Change) RowFault
put_in place row = content_in max_body place row
    >>> (λ content. Ok (record { value = Put content.value.kind content.value.body; place = content.place; rest = content.rest }))

-- a change, by its byte
abbrev pub change_in : ℕ → List ℕ → Result (RowField Change) RowFault
change_in place [] = Err (Bad place)
change_in place (sort ∷ row) = if sort == 1 then put_in (place + 1) row
    else if sort == 2 then Ok (record { value = Remove; place = place + 1; rest = row })
    else Err (Bad place)

-- a document behind its tag
abbrev pub base_behind : List ℕ → RowField Content → Result (RowField Base) RowFault
base_behind tag content = Ok (record {
  value = record { tag = tag; kind = content.value.kind; body = content.value.body };
  place = content.place;
  rest = content.rest;
})

-- a document, where the tag isn't none
abbrev pub remote_behind : RowField (Option (List ℕ)) → Option (List ℕ) → Result (RowField (Option Base)) RowFault
remote_behind field None = Ok (record { value = None; place = field.place; rest = field.rest })
remote_behind field (Some tag) = content_in max_shown_body field.place field.rest >>> (λ content. base_behind tag content
    >>> (λ base. Ok (record { value = Some base.value; place = base.place; rest = base.rest })))

abbrev pub remote_in : ℕ → List ℕ → Result (RowField (Option Base)) RowFault
remote_in place row = meant_1_in optional_tag_meant place row >>> (λ tag. remote_behind tag tag.value)

-- ---- events

abbrev pub connect_reading : List ℕ → Result (Option Event) RowFault
connect_reading row = meant_2_in root_meant 2 row >>> (λ root. meant_2_in bearer_meant root.place root.rest
    >>> (λ token. meant_2_in scopes_meant token.place token.rest
    >>> (λ scopes. whole scopes.place scopes.rest (Some (Connect root.value token.value scopes.value)))))

abbrev pub edit_reading : List ℕ → Result (Option Event) RowFault
edit_reading row = meant_2_in document_meant 2 row >>> (λ path. change_in path.place path.rest
    >>> (λ change. whole change.place change.rest (Some (Edit path.value change.value))))

-- an event of a document and of nothing else
abbrev pub document_event_reading : (Path → Event) → List ℕ → Result (Option Event) RowFault
document_event_reading event row = meant_2_in document_meant 2 row >>> (λ path. whole path.place path.rest (Some (event path.value)))

-- an event of a document and an entity tag, or none
abbrev pub tag_event_reading : (Path → Option (List ℕ) → Event) → List ℕ → Result (Option Event) RowFault
tag_event_reading event row = meant_2_in document_meant 2 row >>> (λ path. meant_1_in optional_tag_meant path.place path.rest
    >>> (λ tag. whole tag.place tag.rest (Some (event path.value tag.value))))

abbrev pub held_reading : List ℕ → Result (Option Event) RowFault
held_reading row = meant_2_in document_meant 2 row >>> (λ path. u16_in path.place path.rest
    >>> (λ status. whole status.place status.rest (Some (Held path.value status.value))))

abbrev pub conflict_reading : List ℕ → Result (Option Event) RowFault
conflict_reading row = meant_2_in document_meant 2 row >>> (λ path. remote_in path.place path.rest
    >>> (λ remote. whole remote.place remote.rest (Some (ConflictMade path.value remote.value))))

-- a document that was pulled has a tag: without one it is an event nowhere
abbrev pub pulled_of : Path → Option (List ℕ) → Content → Option Event
pulled_of path None content = None
pulled_of path (Some tag) content = Some (Pulled path (record { tag = tag; kind = content.kind; body = content.body }))

abbrev pub pulled_reading : List ℕ → Result (Option Event) RowFault
pulled_reading row = meant_2_in document_meant 2 row >>> (λ path. meant_1_in optional_tag_meant path.place path.rest
    >>> (λ tag. content_in max_shown_body tag.place tag.rest
    >>> (λ content. whole content.place content.rest (pulled_of path.value tag.value content.value))))

-- a folder that was settled has a tag: without one it is an event nowhere
abbrev pub settled_of : Path → Option (List ℕ) → Option Event
settled_of path None = None
settled_of path (Some tag) = Some (Settled path tag)

abbrev pub settled_reading : List ℕ → Result (Option Event) RowFault
settled_reading row = meant_2_in path_meant 2 row >>> (λ path. meant_1_in optional_tag_meant path.place path.rest
    >>> (λ tag. whole tag.place tag.rest (settled_of path.value tag.value)))

abbrev pub unsettled_reading : List ℕ → Result (Option Event) RowFault
unsettled_reading row = meant_2_in path_meant 2 row >>> (λ path. whole path.place path.rest (Some (Unsettled path.value)))

abbrev pub resolved_reading : List ℕ → Result (Option Event) RowFault
resolved_reading row = u64_in 2 row >>> (λ n. byte_meant resolve_meant n.place n.rest
    >>> (λ how. whole how.place how.rest (Some (Resolved n.value how.value))))

-- what is left from byte 2 on, by byte 1
abbrev pub event_of_kind : ℕ → List ℕ → Result (Option Event) RowFault
event_of_kind kind row = if kind == 16 then connect_reading row
    else if kind == 17 then edit_reading row
    else if kind == 18 then document_event_reading (λ path. Sent path) row
    else if kind == 19 then tag_event_reading (λ path tag. Accepted path tag) row
    else if kind == 20 then tag_event_reading (λ path tag. Absorbed path tag) row
    else if kind == 21 then held_reading row
    else if kind == 22 then conflict_reading row
    else if kind == 23 then pulled_reading row
    else if kind == 24 then document_event_reading (λ path. Gone path) row
    else if kind == 25 then settled_reading row
    else if kind == 26 then unsettled_reading row
    else if kind == 27 then resolved_reading row
    else Err (Bad 1)

abbrev pub event_behind : List ℕ → Result (Option Event) RowFault
event_behind [] = Err (Bad 1)
event_behind (kind ∷ row) = event_of_kind kind row

-- the event that a row keeps
abbrev pub event_reading : List ℕ → Result (Option Event) RowFault
event_reading [] = Err (Bad 0)
event_reading (format ∷ row) = if format == 1 then event_behind row else Err (Bad 0)
