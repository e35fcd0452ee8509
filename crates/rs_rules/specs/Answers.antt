-- The answer to a request, and the record that it adds. The steps, their order and their replies' numbers are own; what each
-- step asks is the standards'.
use Rattle.std.specs.Prelude.{ℕ, ◌+◌, Bool, true, false, not, ◌&&◌, nat_le, nat_lt, List, [], ◌∷◌, ◌++◌, length, take, Option, Some, None, is_some, is_none, option_map, unwrap_or, if◌then◌else◌}
use Rattle.std.specs.Option.{option_or}
use Rattle.rs_path.specs.Paths.{Path, folder_at}
use Rattle.rs_path.specs.declared.log_entry.LogEntry.{LogEntry}
use Rattle.rs_scope.specs.declared.method.Method.{Method}
use Rattle.rs_scope.specs.declared.method.Method.TheVariants.{Get, Head, Put, Delete}
use Rattle.rs_scope.specs.declared.scope.Scope.{Scope}
use Rattle.rs_scope.specs.Reach.{is_reading, reach_of, is_free_read}
use Rattle.rs_record.specs.declared.records.Record.{Record}
use Rattle.rs_record.specs.declared.records.Record.TheVariants.{Put as PutRecord, Remove as RemoveRecord, Grant as GrantRecord, Revoke as RevokeRecord}
use Rattle.rs_rules.specs.declared.call.Call.{Call}
use Rattle.rs_rules.specs.declared.doc.Doc.{Doc}
use Rattle.rs_rules.specs.declared.pass.Pass.{Pass}
use Rattle.rs_rules.specs.declared.pass.Pass.TheVariants.{Missing, Strange, Known}
use Rattle.rs_rules.specs.declared.reply.Reply.{Reply}
use Rattle.rs_rules.specs.declared.reply.Reply.TheVariants.{Found, Folder, Stored, Removed, Same, NoToken, BadToken, Forbidden, FolderWrite, Clash, Absent, Unmet, RecordsFull, OverQuota, FolderFull, Granted, TokenTaken, Revoked, NotGranted}
use Rattle.rs_rules.specs.declared.request.Request.{Request}
use Rattle.rs_rules.specs.declared.request.Request.TheVariants.{Store, Grant, Revoke}
use Rattle.rs_rules.specs.Limits.{max_len}
use Rattle.rs_rules.specs.Histories.{History}
use Rattle.rs_rules.specs.Documents.{others, doc_in, live_in}
use Rattle.rs_rules.specs.Listings.{items_in}
use Rattle.rs_rules.specs.Clashes.{clash_in, clash_at, full_in}
use Rattle.rs_rules.specs.Snapshots.{Snapshot, snapshot}
use Rattle.rs_rules.specs.Conditions.{meets, excludes}

-- ---- what the steps ask

-- the request is a Put
abbrev pub is_put : Method → Bool
is_put Get = false
is_put Head = false
is_put Put = true
is_put Delete = false

-- the request is a Put or a Delete
abbrev pub is_write : Method → Bool
is_write method = not (is_reading method)

-- the request shows no token
abbrev pub shows_none : Pass → Bool
shows_none Missing = true
shows_none Strange = false
shows_none (Known token) = false

-- the request shows a token that isn't granted
abbrev pub shows_ungranted : Snapshot → Pass → Bool
shows_ungranted s Missing = false
shows_ungranted s Strange = true
shows_ungranted s (Known token) = is_none (s.scopes token)

-- there are scopes, and they don't reach
abbrev pub falls_short : Option (List Scope) → Method → Path → Bool
falls_short None method path = false
falls_short (Some scopes) method path = not (reach_of scopes method path)

-- the scopes of the request's token don't reach
abbrev pub is_beyond : Snapshot → Call → Pass → Bool
is_beyond s c Missing = false
is_beyond s c Strange = false
is_beyond s c (Known token) = falls_short (s.scopes token) c.method c.path

-- the path is a folder, or a document is there
abbrev pub is_present : Snapshot → Call → Bool
is_present s c = if c.path.folder then true else is_some (doc_in c.path s.contents.docs)

-- the version of the path
abbrev pub path_version : Snapshot → Call → ℕ
path_version s c = s.contents.version c.path

-- the sum of the lengths of the bodies after a Put
abbrev pub live_after : Snapshot → Call → ℕ
live_after s c = live_in (others c.path s.contents.docs) + length c.body

-- ---- the steps

-- a reply where the test holds
abbrev pub when : Bool → Reply → Option Reply
when test reply = if test then Some reply else None

-- the first reply of a list
abbrev pub first_of : List (Option Reply) → Option Reply
first_of [] = None
first_of (step ∷ steps) = option_or step (first_of steps)

-- 1 to 3: who may (RFC 6750, section 3.1; draft-dejong-remotestorage, sections 9 and 10)
abbrev pub access_steps : Snapshot → Call → List (Option Reply)
access_steps s c = when (not (is_free_read c.method c.path) && shows_none c.pass) NoToken
    ∷ when (not (is_free_read c.method c.path) && shows_ungranted s c.pass) BadToken
    ∷ when (not (is_free_read c.method c.path) && is_beyond s c c.pass) Forbidden ∷ []

-- the reply that names what the path clashes with, by its number of names
abbrev pub clash_reply : Path → Option ℕ → Option Reply
clash_reply path clash = option_map (λ count. Clash (clash_at path count)) clash

-- 4 and 5: whether a write has a place at the path (draft, sections 4 and 5)
abbrev pub write_steps : Snapshot → Call → List (Option Reply)
write_steps s c = when (is_write c.method && c.path.folder) FolderWrite
    ∷ (if is_put c.method then clash_reply c.path (clash_in s.contents.docs c.path) else None) ∷ []

-- 6: whether what isn't put is there (draft, sections 4 to 6). 7 to 9: conditions on what is there or not and has the
-- version, If-Match first (RFC 9110, section 13.2.2)
abbrev pub condition_steps : Call → Bool → ℕ → List (Option Reply)
condition_steps c there version = when (not (is_put c.method) && not there) Absent
    ∷ when (not (meets c.if_match there version)) Unmet
    ∷ when (is_write c.method && excludes c.if_none there version) Unmet
    ∷ when (is_reading c.method && excludes c.if_none there version) (Same version) ∷ []

-- 4 to 9
abbrev pub place_steps : Snapshot → Call → List (Option Reply)
place_steps s c = write_steps s c ++ condition_steps c (is_present s c) (path_version s c)

-- 1 to 9
abbrev pub early_steps : Snapshot → Call → List (Option Reply)
early_steps s c = access_steps s c ++ place_steps s c

-- the reply that names the folder without room, by its number of names
abbrev pub full_reply : Path → Option ℕ → Option Reply
full_reply path full = option_map (λ count. FolderFull (folder_at (take count path.names))) full

-- 11 and 12: room for the body, and in each folder above the path (own; draft, section 7, on quotas)
abbrev pub room_steps : Snapshot → ℕ → Call → List (Option Reply)
room_steps s quota c = when (is_put c.method && nat_lt quota (live_after s c)) (OverQuota (live_in s.contents.docs))
    ∷ (if is_put c.method then full_reply c.path (full_in s.contents.docs c.path) else None) ∷ []

-- 10 to 12: first room for one more record (own)
abbrev pub limit_steps : Snapshot → ℕ → Call → List (Option Reply)
limit_steps s quota c = when (is_write c.method && nat_le max_len s.len) RecordsFull ∷ room_steps s quota c

-- 13, of a document; step 6 has answered where none is there
abbrev pub shown_doc : Option Doc → Reply
shown_doc None = Absent
shown_doc (Some doc) = Found doc.version doc.kind doc.body

-- 13 (draft-dejong-remotestorage, sections 4 and 5)
abbrev pub shown : Snapshot → Path → Reply
shown s path = if path.folder then Folder (s.contents.version path) (items_in s.contents path)
    else shown_doc (doc_in path s.contents.docs)

-- 13 to 15 (draft, sections 5 and 6). Head has the reply of Get
abbrev pub last_step : Snapshot → Call → Method → Reply
last_step s c Get = shown s c.path
last_step s c Head = shown s c.path
last_step s c Put = Stored (s.len + 1) (not (is_present s c))
last_step s c Delete = Removed (path_version s c)

-- the reply of the first of the fifteen steps that applies
abbrev pub answer_call_in : Snapshot → ℕ → Call → Reply
answer_call_in s quota c =
    unwrap_or (option_or (first_of (early_steps s c)) (first_of (limit_steps s quota c))) (last_step s c c.method)

-- ---- grants

abbrev pub answer_grant_in : Snapshot → List ℕ → Reply
answer_grant_in s token =
    if nat_le max_len s.len then RecordsFull else (if is_some (s.scopes token) then TokenTaken else Granted)

abbrev pub answer_revoke_in : Snapshot → List ℕ → Reply
answer_revoke_in s token =
    if is_none (s.scopes token) then NotGranted else (if nat_le max_len s.len then RecordsFull else Revoked)

-- ---- the answer

-- the answer to a request, from what it looks at
abbrev pub answer_in : Snapshot → ℕ → Request → Reply
answer_in s quota (Store c) = answer_call_in s quota c
answer_in s quota (Grant token scopes) = answer_grant_in s token
answer_in s quota (Revoke token) = answer_revoke_in s token

-- the answer of a history under a quota in bytes
abbrev pub answer : History → ℕ → Request → Reply
answer h quota r = answer_in (snapshot h) quota r

-- the token that a request shows
abbrev pub token_of : Pass → Option (List ℕ)
token_of Missing = None
token_of Strange = None
token_of (Known token) = Some token

-- the record of a Put and of a Delete; the call's token is its writer
abbrev pub put_record : Call → Record
put_record c = PutRecord c.path c.kind c.body (token_of c.pass)

abbrev pub remove_record : Call → Record
remove_record c = RemoveRecord c.path (token_of c.pass)

-- the record that a storage request with this reply adds
abbrev pub record_of_call : Call → Reply → Option Record
record_of_call c (Stored version created) = Some (put_record c)
record_of_call c (Removed version) = Some (remove_record c)
record_of_call c reply = None

abbrev pub record_of_grant : List ℕ → List Scope → Reply → Option Record
record_of_grant token scopes Granted = Some (GrantRecord token scopes)
record_of_grant token scopes reply = None

abbrev pub record_of_revoke : List ℕ → Reply → Option Record
record_of_revoke token Revoked = Some (RevokeRecord token)
record_of_revoke token reply = None

-- the record that a request with this reply adds
abbrev pub record_of : Request → Reply → Option Record
record_of (Store c) reply = record_of_call c reply
record_of (Grant token scopes) reply = record_of_grant token scopes reply
record_of (Revoke token) reply = record_of_revoke token reply

-- the record that the request adds to the history, if it adds one
abbrev pub taken : History → ℕ → Request → Option Record
taken h quota r = record_of r (answer h quota r)

-- the record that a storage request of this method brings; a reading one brings none
abbrev pub brought_by : Method → Call → Option Record
brought_by Get c = None
brought_by Head c = None
brought_by Put c = Some (put_record c)
brought_by Delete c = Some (remove_record c)

-- the record that a request brings
abbrev pub brought : Request → Option Record
brought (Store c) = brought_by c.method c
brought (Grant token scopes) = Some (GrantRecord token scopes)
brought (Revoke token) = Some (RevokeRecord token)

-- the entries of a record that may be there
abbrev pub entry_of : ℕ → Option Record → List (LogEntry Record)
entry_of who None = []
entry_of who (Some what) = record { who = who; what = what } ∷ []
