-- An event's row is read as the event, and what is behind it is surplus.
use Rattle.std.proofs.Common.{◌≡◌, ℕ, ◌+◌, ◌<◌, ◌≤◌, ◌^◌, true, List, [], ◌∷◌, ◌++◌, length, Option, Some, None, Result, Ok, arith, refl, sym, ap, ◌∙◌, length-append, append_assoc, append-nil, nat_le}
use Rattle.std.specs.Int.{w16, to_be_bytes}
use Rattle.std.proofs.lemmas.Bool.{cond-true, and_parts}
use Rattle.std.proofs.lemmas.Bool.Decides.{nat_tests}
use Rattle.std.proofs.lemmas.Slice.Eq.{bytes_eq-Decides}
use Rattle.rs_path.specs.Paths.{Path, is_path, plain_text}
use Rattle.rs_path.specs.Tags.{is_tag}
use Rattle.rs_path.proofs.Cited.{length-plain_text}
use Rattle.rs_scope.specs.declared.scope.Scope.{Scope}
use Rattle.rs_scope.specs.Scopes.{scopes_text}
use Rattle.rs_scope.proofs.Cited.{HasScopes-from}
use Rattle.rs_talk.specs.declared.base.Base.{Base}
use Rattle.rs_talk.specs.declared.change.Change.{Change}
use Rattle.rs_talk.specs.declared.change.Change.TheVariants.{Put, Remove}
use Rattle.rs_talk.specs.Bearers.{is_bearer, is_b64token}
use Rattle.rs_talk.specs.Roots.{Root, root_text, root_reading}
use Rattle.rs_row.specs.declared.row_fault.RowFault.{RowFault}
use Rattle.rs_row.specs.RowTexts.{behind_1, behind_2, behind_4}
use Rattle.rs_row.specs.RowFields.{RowField, ◌>>>◌, path_meant, document_meant, kind_meant, optional_tag_meant, scopes_meant, meant_1_in, meant_2_in, u16_in, byte_meant, body_in, whole}
use Rattle.rs_row.proofs.Cited.{At, meant_1_in-text, meant_2_in-text, path_meant-text, document_meant-text, kind_meant-text, optional_tag_meant-some, scopes_meant-text, u16_in-number, u64_in-number, body_in-text}
use Rattle.rs_cache.specs.declared.event.Event.{Event}
use Rattle.rs_cache.specs.declared.event.Event.TheVariants.{Connect, Edit, Sent, Accepted, Absorbed, Held, Conflict as ConflictMade, Pulled, Gone, Settled, Unsettled, Resolved}
use Rattle.rs_cache.specs.declared.resolve.Resolve.{Resolve}
use Rattle.rs_cache.specs.declared.resolve.Resolve.TheVariants.{Keep, Drop}
use Rattle.rs_cache.specs.EventRows.{path_bytes, tag_bytes, content_bytes, change_bytes, base_bytes, remote_bytes, event_row}
use Rattle.rs_cache.specs.EventReadings.{Content, root_if_written, root_meant, bearer_meant, content_in, change_in, base_behind, remote_behind, remote_in, resolve_meant, pulled_of, settled_of, event_reading}
use Rattle.rs_cache.specs.EventParts.{IsDocumentPath, HasTagPart, HasChangeParts, HasBaseParts, HasRemoteParts, HasEventParts}

-- ---- fields

short_path : (path : Path) → is_path path ≡ true → length (plain_text path) < 2 ^ 16
short_path path is = omega (arith, length-plain_text path is)

document_first : (path : Path) (more : List ℕ) → IsDocumentPath path
    → meant_2_in document_meant 2 (path_bytes path ++ more) ≡ Ok (At path (4 + length (plain_text path)) more)
document_first path more is =
    meant_2_in-text document_meant 2 (plain_text path) more path (short_path path is.0) (document_meant-text path is.0 is.1)

path_first : (path : Path) (more : List ℕ) → is_path path ≡ true
    → meant_2_in path_meant 2 (path_bytes path ++ more) ≡ Ok (At path (4 + length (plain_text path)) more)
path_first path more is = meant_2_in-text path_meant 2 (plain_text path) more path (short_path path is) (path_meant-text path is)

-- the text of a tag that may be none
abbrev tag_text_of : Option (List ℕ) → List ℕ
tag_text_of None = []
tag_text_of (Some tag) = tag

tag_field : (place : ℕ) (tag : Option (List ℕ)) (more : List ℕ) → HasTagPart tag
    → meant_1_in optional_tag_meant place (tag_bytes tag ++ more) ≡ Ok (At tag (place + 1 + length (tag_text_of tag)) more)
tag_field place None more is = meant_1_in-text optional_tag_meant place [] more None refl
tag_field place (Some tag) more is = meant_1_in-text optional_tag_meant place tag more (Some tag) (optional_tag_meant-some tag is)

abbrev ContentOf : List ℕ → List ℕ → Content
ContentOf kind body = record { kind = kind; body = body }

content_more : (kind body more : List ℕ) → content_bytes kind body ++ more ≡ behind_1 kind ++ (behind_4 body ++ more)
content_more kind body more = append_assoc (behind_1 kind) (behind_4 body) more

content_field : (limit place : ℕ) (kind body more : List ℕ) → kind_meant kind ≡ Some kind → length body ≤ limit → limit < 2 ^ 32
    → content_in limit place (content_bytes kind body ++ more) ≡ Ok (At (ContentOf kind body) (place + 1 + length kind + 4 + length body) more)
content_field limit place kind body more is within few =
    ap (content_in limit place) (content_more kind body more)
    ∙ ap (λ (r : Result (RowField (List ℕ)) RowFault). r >>> (λ (k : RowField (List ℕ)). body_in limit k.place k.rest
    >>> (λ (b : RowField (List ℕ)). Ok (At (ContentOf k.value b.value) b.place b.rest))))
    (meant_1_in-text kind_meant place kind (behind_4 body ++ more) kind is)
    ∙ ap (λ (r : Result (RowField (List ℕ)) RowFault). r >>> (λ (b : RowField (List ℕ)). Ok (At (ContentOf kind b.value) b.place b.rest)))
    (body_in-text limit (place + 1 + length kind) body more within few)

-- how long a change's bytes are, behind its own byte
abbrev change_size : Change → ℕ
change_size (Put kind body) = 1 + length kind + 4 + length body
change_size Remove = 0

change_sum : (p k b : ℕ) → p + 1 + 1 + k + 4 + b ≡ p + 1 + (1 + k + 4 + b)
change_sum p k b = omega arith

nothing_more : (p : ℕ) → p + 1 ≡ p + 1 + 0
nothing_more p = omega arith

change_field : (place : ℕ) (change : Change) (more : List ℕ) → HasChangeParts change
    → change_in place (change_bytes change ++ more) ≡ Ok (At change (place + 1 + change_size change) more)
change_field place (Put kind body) more is =
    ap (λ (r : Result (RowField Content) RowFault). r >>> (λ (c : RowField Content). Ok (At (Put c.value.kind c.value.body) c.place c.rest)))
    (content_field 67108864 (place + 1) kind body more (kind_meant-text kind is.0) is.1 (omega arith))
    ∙ ap (λ n. Ok (At (Put kind body) n more)) (change_sum place (length kind) (length body))
change_field place Remove more is = ap (λ n. Ok (At Remove n more)) (nothing_more place)

-- how long a remote document's bytes are, behind the length of its tag
abbrev remote_size : Option Base → ℕ
remote_size None = 0
remote_size (Some base) = length base.tag + 1 + length base.kind + 4 + length base.body

base_more : (base : Base) (more : List ℕ) → base_bytes base ++ more ≡ behind_1 base.tag ++ (content_bytes base.kind base.body ++ more)
base_more base more = append_assoc (behind_1 base.tag) (content_bytes base.kind base.body) more

remote_sum : (p t k b : ℕ) → p + 1 + t + 1 + k + 4 + b ≡ p + 1 + (t + 1 + k + 4 + b)
remote_sum p t k b = omega arith

remote_field : (place : ℕ) (remote : Option Base) (more : List ℕ) → HasRemoteParts remote
    → remote_in place (remote_bytes remote ++ more) ≡ Ok (At remote (place + 1 + remote_size remote) more)
remote_field place None more is =
    ap (λ (r : Result (RowField (Option (List ℕ))) RowFault). r >>> (λ (tag : RowField (Option (List ℕ))). remote_behind tag tag.value))
    (meant_1_in-text optional_tag_meant place [] more None refl)
remote_field place (Some base) more is =
    ap (remote_in place) (base_more base more)
    ∙ ap (λ (r : Result (RowField (Option (List ℕ))) RowFault). r >>> (λ (tag : RowField (Option (List ℕ))). remote_behind tag tag.value))
    (meant_1_in-text optional_tag_meant place base.tag (content_bytes base.kind base.body ++ more) (Some base.tag) (optional_tag_meant-some base.tag is.0))
    ∙ ap (λ (r : Result (RowField Content) RowFault). r >>> (λ (c : RowField Content). base_behind base.tag c
    >>> (λ (b : RowField Base). Ok (At (Some b.value) b.place b.rest))))
    (content_field 134217728 (place + 1 + length base.tag) base.kind base.body more (kind_meant-text base.kind is.1) is.2 (omega arith))
    ∙ ap (λ n. Ok (At (Some base) n more)) (remote_sum place (length base.tag) (length base.kind) (length base.body))

-- ---- events

-- an event's row and what is behind it
abbrev pub ReadsOnRow : Event → List ℕ → Type 0
ReadsOnRow event more = event_reading (event_row event ++ more) ≡ whole (length (event_row event)) more (Some event)

sent_more : (path : Path) (more : List ℕ) → IsDocumentPath path → ReadsOnRow (Sent path) more
sent_more path more is =
    let place : 4 + length (plain_text path) ≡ length (event_row (Sent path)) = omega arith in
    ap (λ (r : Result (RowField Path) RowFault). r >>> (λ (p : RowField Path). whole p.place p.rest (Some (Sent p.value)))) (document_first path more is)
    ∙ ap (λ n. whole n more (Some (Sent path))) place

gone_more : (path : Path) (more : List ℕ) → IsDocumentPath path → ReadsOnRow (Gone path) more
gone_more path more is =
    let place : 4 + length (plain_text path) ≡ length (event_row (Gone path)) = omega arith in
    ap (λ (r : Result (RowField Path) RowFault). r >>> (λ (p : RowField Path). whole p.place p.rest (Some (Gone p.value)))) (document_first path more is)
    ∙ ap (λ n. whole n more (Some (Gone path))) place

unsettled_more : (path : Path) (more : List ℕ) → is_path path ≡ true → ReadsOnRow (Unsettled path) more
unsettled_more path more is =
    let place : 4 + length (plain_text path) ≡ length (event_row (Unsettled path)) = omega arith in
    ap (λ (r : Result (RowField Path) RowFault). r >>> (λ (p : RowField Path). whole p.place p.rest (Some (Unsettled p.value)))) (path_first path more is)
    ∙ ap (λ n. whole n more (Some (Unsettled path))) place

edit_length : (path : Path) (change : Change) → 4 + length (plain_text path) + 1 + change_size change ≡ length (event_row (Edit path change))
edit_length path (Put kind body) =
    omega (arith, length-append (path_bytes path) (change_bytes (Put kind body)), length-append kind (behind_4 body))
edit_length path Remove = omega (arith, length-append (path_bytes path) (change_bytes Remove))

edit_more : (path : Path) (change : Change) (more : List ℕ) → IsDocumentPath path → HasChangeParts change → ReadsOnRow (Edit path change) more
edit_more path change more is parts =
    let text = path_bytes path in
    let place : 4 + length (plain_text path) + 1 + change_size change ≡ length (event_row (Edit path change)) =
    edit_length path change in
    ap event_reading (ap (λ rest. 1 ∷ 17 ∷ rest) (append_assoc text (change_bytes change) more))
    ∙ ap (λ (r : Result (RowField Path) RowFault). r >>> (λ (p : RowField Path). change_in p.place p.rest
    >>> (λ (c : RowField Change). whole c.place c.rest (Some (Edit p.value c.value)))))
    (document_first path (change_bytes change ++ more) is)
    ∙ ap (λ (r : Result (RowField Change) RowFault). r >>> (λ (c : RowField Change). whole c.place c.rest (Some (Edit path c.value))))
    (change_field (4 + length (plain_text path)) change more parts)
    ∙ ap (λ n. whole n more (Some (Edit path change))) place

tag_length : (kind : ℕ) (path : Path) (tag : Option (List ℕ)) → 4 + length (plain_text path) + 1 + length (tag_text_of tag) ≡ length (1 ∷ kind ∷ (path_bytes path ++ tag_bytes tag))
tag_length kind path None = omega (arith, length-append (path_bytes path) (tag_bytes None))
tag_length kind path (Some tag) = omega (arith, length-append (path_bytes path) (tag_bytes (Some tag)))

accepted_more : (path : Path) (tag : Option (List ℕ)) (more : List ℕ) → IsDocumentPath path → HasTagPart tag → ReadsOnRow (Accepted path tag) more
accepted_more path tag more is parts =
    ap event_reading (ap (λ rest. 1 ∷ 19 ∷ rest) (append_assoc (path_bytes path) (tag_bytes tag) more))
    ∙ ap (λ (r : Result (RowField Path) RowFault). r >>> (λ (p : RowField Path). meant_1_in optional_tag_meant p.place p.rest
    >>> (λ (t : RowField (Option (List ℕ))). whole t.place t.rest (Some (Accepted p.value t.value)))))
    (document_first path (tag_bytes tag ++ more) is)
    ∙ ap (λ (r : Result (RowField (Option (List ℕ))) RowFault). r >>> (λ (t : RowField (Option (List ℕ))). whole t.place t.rest (Some (Accepted path t.value))))
    (tag_field (4 + length (plain_text path)) tag more parts)
    ∙ ap (λ n. whole n more (Some (Accepted path tag))) (tag_length 19 path tag)

absorbed_more : (path : Path) (tag : Option (List ℕ)) (more : List ℕ) → IsDocumentPath path → HasTagPart tag → ReadsOnRow (Absorbed path tag) more
absorbed_more path tag more is parts =
    ap event_reading (ap (λ rest. 1 ∷ 20 ∷ rest) (append_assoc (path_bytes path) (tag_bytes tag) more))
    ∙ ap (λ (r : Result (RowField Path) RowFault). r >>> (λ (p : RowField Path). meant_1_in optional_tag_meant p.place p.rest
    >>> (λ (t : RowField (Option (List ℕ))). whole t.place t.rest (Some (Absorbed p.value t.value)))))
    (document_first path (tag_bytes tag ++ more) is)
    ∙ ap (λ (r : Result (RowField (Option (List ℕ))) RowFault). r >>> (λ (t : RowField (Option (List ℕ))). whole t.place t.rest (Some (Absorbed path t.value))))
    (tag_field (4 + length (plain_text path)) tag more parts)
    ∙ ap (λ n. whole n more (Some (Absorbed path tag))) (tag_length 20 path tag)

held_more : (path : Path) (status : ℕ) (more : List ℕ) → IsDocumentPath path → status < 2 ^ 16 → ReadsOnRow (Held path status) more
held_more path status more is small =
    let number = to_be_bytes w16 status in
    let place : 4 + length (plain_text path) + 2 ≡ length (event_row (Held path status)) = omega (arith, length-append (path_bytes path) number) in
    ap event_reading (ap (λ rest. 1 ∷ 21 ∷ rest) (append_assoc (path_bytes path) number more))
    ∙ ap (λ (r : Result (RowField Path) RowFault). r >>> (λ (p : RowField Path). u16_in p.place p.rest
    >>> (λ (n : RowField ℕ). whole n.place n.rest (Some (Held p.value n.value)))))
    (document_first path (number ++ more) is)
    ∙ ap (λ (r : Result (RowField ℕ) RowFault). r >>> (λ (n : RowField ℕ). whole n.place n.rest (Some (Held path n.value))))
    (u16_in-number (4 + length (plain_text path)) status more small)
    ∙ ap (λ n. whole n more (Some (Held path status))) place

remote_length : (kind : ℕ) (path : Path) (remote : Option Base) → 4 + length (plain_text path) + 1 + remote_size remote ≡ length (1 ∷ kind ∷ (path_bytes path ++ remote_bytes remote))
remote_length kind path None = omega (arith, length-append (path_bytes path) (remote_bytes None))
remote_length kind path (Some base) =
    omega (
      arith,
      length-append (path_bytes path) (base_bytes base),
      length-append base.tag (content_bytes base.kind base.body),
      length-append base.kind (behind_4 base.body),
    )

conflict_more : (path : Path) (remote : Option Base) (more : List ℕ) → IsDocumentPath path → HasRemoteParts remote → ReadsOnRow (ConflictMade path remote) more
conflict_more path remote more is parts =
    ap event_reading (ap (λ rest. 1 ∷ 22 ∷ rest) (append_assoc (path_bytes path) (remote_bytes remote) more))
    ∙ ap (λ (r : Result (RowField Path) RowFault). r >>> (λ (p : RowField Path). remote_in p.place p.rest
    >>> (λ (b : RowField (Option Base)). whole b.place b.rest (Some (ConflictMade p.value b.value)))))
    (document_first path (remote_bytes remote ++ more) is)
    ∙ ap (λ (r : Result (RowField (Option Base)) RowFault). r >>> (λ (b : RowField (Option Base)). whole b.place b.rest (Some (ConflictMade path b.value))))
    (remote_field (4 + length (plain_text path)) remote more parts)
    ∙ ap (λ n. whole n more (Some (ConflictMade path remote))) (remote_length 22 path remote)

pulled_more : (path : Path) (base : Base) (more : List ℕ) → IsDocumentPath path → HasBaseParts base → ReadsOnRow (Pulled path base) more
pulled_more path base more is parts =
    let behind = 4 + length (plain_text path) in
    let content = content_bytes base.kind base.body in
    let place : behind + 1 + length base.tag + 1 + length base.kind + 4 + length base.body ≡ length (event_row (Pulled path base)) =
    omega (arith, remote_length 23 path (Some base)) in
    ap event_reading (ap (λ rest. 1 ∷ 23 ∷ rest) (append_assoc (path_bytes path) (base_bytes base) more ∙ ap (λ rest. path_bytes path ++ rest) (base_more base more)))
    ∙ ap (λ (r : Result (RowField Path) RowFault). r >>> (λ (p : RowField Path). meant_1_in optional_tag_meant p.place p.rest
    >>> (λ (t : RowField (Option (List ℕ))). content_in 134217728 t.place t.rest
    >>> (λ (c : RowField Content). whole c.place c.rest (pulled_of p.value t.value c.value)))))
    (document_first path (behind_1 base.tag ++ (content ++ more)) is)
    ∙ ap (λ (r : Result (RowField (Option (List ℕ))) RowFault). r >>> (λ (t : RowField (Option (List ℕ))). content_in 134217728 t.place t.rest
    >>> (λ (c : RowField Content). whole c.place c.rest (pulled_of path t.value c.value))))
    (meant_1_in-text optional_tag_meant behind base.tag (content ++ more) (Some base.tag) (optional_tag_meant-some base.tag parts.0))
    ∙ ap (λ (r : Result (RowField Content) RowFault). r >>> (λ (c : RowField Content). whole c.place c.rest (pulled_of path (Some base.tag) c.value)))
    (content_field 134217728 (behind + 1 + length base.tag) base.kind base.body more (kind_meant-text base.kind parts.1) parts.2 (omega arith))
    ∙ ap (λ n. whole n more (Some (Pulled path base))) place

settled_more : (path : Path) (tag : List ℕ) (more : List ℕ) → is_path path ≡ true → is_tag tag ≡ true → ReadsOnRow (Settled path tag) more
settled_more path tag more is parts =
    let behind = 4 + length (plain_text path) in
    let place : behind + 1 + length tag ≡ length (event_row (Settled path tag)) = omega (arith, length-append (path_bytes path) (behind_1 tag)) in
    ap event_reading (ap (λ rest. 1 ∷ 25 ∷ rest) (append_assoc (path_bytes path) (behind_1 tag) more))
    ∙ ap (λ (r : Result (RowField Path) RowFault). r >>> (λ (p : RowField Path). meant_1_in optional_tag_meant p.place p.rest
    >>> (λ (t : RowField (Option (List ℕ))). whole t.place t.rest (settled_of p.value t.value))))
    (path_first path (behind_1 tag ++ more) is)
    ∙ ap (λ (r : Result (RowField (Option (List ℕ))) RowFault). r >>> (λ (t : RowField (Option (List ℕ))). whole t.place t.rest (settled_of path t.value)))
    (meant_1_in-text optional_tag_meant behind tag more (Some tag) (optional_tag_meant-some tag parts))
    ∙ ap (λ n. whole n more (Some (Settled path tag))) place

resolved_more : (n : ℕ) (how : Resolve) (more : List ℕ) → n < 2 ^ 64 → ReadsOnRow (Resolved n how) more
resolved_more n Keep more small =
    ap (λ (r : Result (RowField ℕ) RowFault). r >>> (λ (k : RowField ℕ). byte_meant resolve_meant k.place k.rest
    >>> (λ (h : RowField Resolve). whole h.place h.rest (Some (Resolved k.value h.value)))))
    (u64_in-number 2 n (1 ∷ more) small)
resolved_more n Drop more small =
    ap (λ (r : Result (RowField ℕ) RowFault). r >>> (λ (k : RowField ℕ). byte_meant resolve_meant k.place k.rest
    >>> (λ (h : RowField Resolve). whole h.place h.rest (Some (Resolved k.value h.value)))))
    (u64_in-number 2 n (2 ∷ more) small)

root_meant-text : (root : Root) → root_reading (root_text root) ≡ Ok root → root_meant (root_text root) ≡ Some root
root_meant-text root back =
    ap (root_if_written (root_text root)) back ∙ cond-true _ _ _ ((bytes_eq-Decides (root_text root) (root_text root)).1 refl)

short_bearer : (token : List ℕ) → is_bearer token ≡ true → length token < 2 ^ 16
short_bearer token is =
    let short = (and_parts (nat_le (length token) 1024) (is_b64token token) is).0 in
    let within : length token ≤ 1024 = grind (arith, nat_tests, short) in
    omega (arith, within)

connect_more : (root : Root) (token : List ℕ) (scopes : List Scope) (more : List ℕ) → HasEventParts (Connect root token scopes)
    → ReadsOnRow (Connect root token scopes) more
connect_more root token scopes more is =
    let one = behind_2 (root_text root) in
    let two = behind_2 token in
    let three = behind_2 (scopes_text scopes) in
    let after_root = 2 + 2 + length (root_text root) in
    let after_token = after_root + 2 + length token in
    let fewer = (HasScopes-from scopes is.3).short in
    let small : length (scopes_text scopes) < 2 ^ 16 = omega (arith, fewer) in
    let place : after_token + 2 + length (scopes_text scopes) ≡ length (event_row (Connect root token scopes)) =
    omega (arith, length-append (root_text root) (two ++ three), length-append token three) in
    ap event_reading (ap (λ rest. 1 ∷ 16 ∷ rest) (append_assoc one (two ++ three) more ∙ ap (λ rest. one ++ rest) (append_assoc two three more)))
    ∙ ap (λ (r : Result (RowField Root) RowFault). r >>> (λ (o : RowField Root). meant_2_in bearer_meant o.place o.rest
    >>> (λ (t : RowField (List ℕ)). meant_2_in scopes_meant t.place t.rest
    >>> (λ (s : RowField (List Scope)). whole s.place s.rest (Some (Connect o.value t.value s.value))))))
    (meant_2_in-text root_meant 2 (root_text root) (two ++ (three ++ more)) root is.1 (root_meant-text root is.0))
    ∙ ap (λ (r : Result (RowField (List ℕ)) RowFault). r >>> (λ (t : RowField (List ℕ)). meant_2_in scopes_meant t.place t.rest
    >>> (λ (s : RowField (List Scope)). whole s.place s.rest (Some (Connect root t.value s.value)))))
    (meant_2_in-text bearer_meant after_root token (three ++ more) token (short_bearer token is.2) (cond-true _ _ _ is.2))
    ∙ ap (λ (r : Result (RowField (List Scope)) RowFault). r >>> (λ (s : RowField (List Scope)). whole s.place s.rest (Some (Connect root token s.value))))
    (meant_2_in-text scopes_meant after_token (scopes_text scopes) more scopes small (scopes_meant-text scopes is.3))
    ∙ ap (λ n. whole n more (Some (Connect root token scopes))) place

-- an event's row is read as the event, and what is behind it is surplus
pub event_more : (event : Event) (more : List ℕ) → HasEventParts event → ReadsOnRow event more
event_more (Connect root token scopes) more is = connect_more root token scopes more is
event_more (Edit path change) more is = edit_more path change more is.0 is.1
event_more (Sent path) more is = sent_more path more is
event_more (Accepted path tag) more is = accepted_more path tag more is.0 is.1
event_more (Absorbed path tag) more is = absorbed_more path tag more is.0 is.1
event_more (Held path status) more is = held_more path status more is.0 is.1
event_more (ConflictMade path remote) more is = conflict_more path remote more is.0 is.1
event_more (Pulled path base) more is = pulled_more path base more is.0 is.1
event_more (Gone path) more is = gone_more path more is
event_more (Settled path tag) more is = settled_more path tag more is.0 is.1
event_more (Unsettled path) more is = unsettled_more path more is
event_more (Resolved n how) more is = resolved_more n how more is

pub event_back : (event : Event) → HasEventParts event → event_reading (event_row event) ≡ Ok (Some event)
event_back event is = ap event_reading (sym (append-nil (event_row event))) ∙ event_more event [] is

-- events with one row are one
pub event_same : (event other : Event) → HasEventParts event → HasEventParts other → event_row event ≡ event_row other → event ≡ other
event_same event other is also rows =
    let both : Ok (Some event) ≡ Ok (Some other) = sym (event_back event is) ∙ ap event_reading rows ∙ event_back other also in
    cc
