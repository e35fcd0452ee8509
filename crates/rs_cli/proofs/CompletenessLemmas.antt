-- Without a fault and a refusal a command succeeds, or memory ran out.
use Rattle.std.proofs.Common.{◌≡◌, ◌≤◌, ◌<◌, ℕ, ◌⊎◌, inl, inr, true, false, List, [], ◌∷◌, length, map, Option, Some, None, option_map, codes, IfSome, IfErr, is_some, Result, Ok, Err, refl, sym, ap, ◌∙◌, subst, arith}
use Rattle.rs_path.specs.Limits.{max_body}
use Rattle.rs_path.specs.Paths.{Path}
use Rattle.rs_face.specs.declared.sink.SinkFault.{SinkFault}
use Rattle.rs_face.specs.declared.sink.SinkFault.TheVariants as sink
use Rattle.rs_face.specs.Causes.{HasCause, Rose}
use Rattle.rs_scope.specs.declared.scope.Scope.{Scope}
use Rattle.rs_row.specs.declared.open_fault.OpenFault.{OpenFault}
use Rattle.rs_row.specs.declared.open_fault.OpenFault.TheVariants as opening_fault
use Rattle.rs_rules.specs.declared.reply.Reply.TheVariants as reply
use Rattle.rs_rules.specs.declared.request.Request.{Request}
use Rattle.rs_rules.specs.declared.request.Request.TheVariants.{Grant as GrantRequest, Revoke as RevokeRequest}
use Rattle.rs_rules.specs.Histories.{History}
use Rattle.rs_rules.specs.Tokens.{scopes_of}
use Rattle.rs_rules.specs.Answers.{answer}
use Rattle.rs_user.specs.Openings.{opening}
use Rattle.rs_exchange.specs.declared.account.Config.{Config}
use Rattle.rs_front.specs.declared.serve.End.{End}
use Rattle.rs_front.specs.declared.serve.End.TheVariants as end
use Rattle.rs_front.specs.Due.{Users}
use Rattle.rs_front.specs.Ends.{Served, EndsSo}
use Rattle.rs_cache.specs.declared.cache_fault.CacheFault.{CacheFault}
use Rattle.rs_talk.specs.declared.change.Change.TheVariants as change
use Rattle.rs_cache.specs.declared.event.Event.{Event}
use Rattle.rs_cache.specs.declared.event.Event.TheVariants as event
use Rattle.rs_cache.specs.Refusals.{edit_refusal, remove_refusal, resolve_refusal}
use Rattle.rs_client.specs.Answers.{shown_document, shown_listing, shown_summary, shown_conflicts}
use Rattle.rs_cache.specs.States.{State}
use Rattle.rs_cache.specs.Journals.{state_of}
use Rattle.rs_cache.specs.ClientRows.{IsStateOf, events_read, events_in}
use Rattle.rs_cache.specs.EventReadings.{event_reading}
use Rattle.rs_client.specs.declared.client_fault.ClientFault.{ClientFault}
use Rattle.rs_client.specs.declared.client_fault.ClientFault.TheVariants as client
use Rattle.rs_client.specs.Causes.{client_fault}
use Rattle.rs_client.specs.Clients.{IsClient, IsUnopened}
use Rattle.rs_client.specs.Showings.{ShowsOver}
use Rattle.rs_client.specs.Additions.{IsRefused, AddsOver}
use Rattle.rs_client.specs.Connecting.{ConnectsOver}
use Rattle.rs_client.specs.Putting.{IsRefusedEdit, PutsOver, SourceEnds}
use Rattle.rs_cli.specs.declared.command.Command.{Command}
use Rattle.rs_cli.specs.declared.command.Command.TheVariants.{Pipe, Grant, Revoke, Connect, Put, Get, Remove, List as ListFolder, Status, Conflicts, Resolve, Help, Version}
use Rattle.rs_cli.specs.declared.note.Note.{Note}
use Rattle.rs_cli.specs.declared.note.Note.TheVariants.{Limit, Message}
use Rattle.rs_cli.specs.declared.request_fault.RequestFault.{RequestFault}
use Rattle.rs_cli.specs.declared.request_fault.RequestFault.TheVariants as asked
use Rattle.rs_cli.specs.Causes.{note_of_client, note_of_opening, note_of_request, note_of_printing, note_of_end}
use Rattle.rs_cli.specs.Commands.{AsksFor, default_quota, words_fault, setting_in}
use Rattle.rs_cli.specs.ClientEnds.{SaysDone, SaysShown, ConnectEnds, PutEnds, AddEnds, ShowEnds}
use Rattle.rs_cli.specs.Forms.{wrong_word}
use Rattle.rs_face.specs.Courses.{Course, HasFailed}
use Rattle.rs_cli.specs.Outsides.{Outside, IsFaultless}
use Rattle.rs_cli.specs.Grants.{SpelledBy, OpeningFails, NotOpened, RequestFails, Refused, Prints, RevokeEnds, GrantEnds}
use Rattle.rs_cli.specs.Pipes.{config_of, users_of, Pipes, PipeEnds}
use Rattle.rs_cli.specs.Runs.{Does, Runs}
use Rattle.rs_cli.specs.Completeness.{OpensAs, AllowsPipe, OpensClient, AllowsAdd, AllowsPut, AllowsShow, Allows, IsGood, Succeeds, IsComplete}

-- ---- causes that can't come

printed : {A : Type 0} (before now : ℕ) (result : Result A SinkFault) (note : Note) → (Rose before now → ⊥) → HasCause before now sink.Failed result
    → note ≡ note_of_printing result → IsGood note
printed before now (Ok done) note never cause said = inl said
printed before now (Err sink.Failed) note never cause said = absurd (never (cause.failed refl))
printed before now (Err sink.NoMemory) note never cause said = inr said

prints_well : (it : Course (List ℕ)) (line : List ℕ) (note : Note) → (HasFailed it → ⊥) → Prints it line note → IsGood note
prints_well it line note never prints = printed it.before it.now prints.result note never prints.cause prints.said

-- told rows that are opened are not refused
told_opens : (told : Option (List (List ℕ))) (rows : List (List ℕ)) (h : History) (f : OpenFault) → told ≡ Some rows → opening rows ≡ Ok h
    → IfSome told (λ kept. opening kept ≡ Err f) → ⊥
told_opens told rows h f is opens refused =
    let wrong : opening rows ≡ Err f = subst (λ o. IfSome o (λ kept. opening kept ≡ Err f)) is refused in
    absurd cc

opened : (it : Course (List (List ℕ))) (rows : List (List ℕ)) (h : History) (f : OpenFault) (note : Note) → it.old ≡ Some rows → opening rows ≡ Ok h
    → (HasFailed it → ⊥) → OpeningFails it f → note ≡ note_of_opening f → IsGood note
opened it rows h (opening_fault.BadRow index place) note is opens never fails said = absurd (told_opens it.old rows h (opening_fault.BadRow index place) is opens fails)
opened it rows h (opening_fault.Unlawful index) note is opens never fails said = absurd (told_opens it.old rows h (opening_fault.Unlawful index) is opens fails)
opened it rows h opening_fault.KeeperFailed note is opens never fails said = absurd (never fails)
opened it rows h opening_fault.NoMemory note is opens never fails said = inr said

opens_well : (out : Outside) (h : History) (note : Note) → OpensAs out h → (HasFailed out.rows → ⊥) → NotOpened out.rows note → IsGood note
opens_well out h note opens never not = opened out.rows opens.rows h not.fault note opens.told opens.opens never not.fails not.said

-- the told rows are opened as one history
same_history : (told : Option (List (List ℕ))) (rows : List (List ℕ)) (h other : History) → told ≡ Some rows → opening rows ≡ Ok h → SpelledBy told other → other ≡ h
same_history told rows h other is opens spelled =
    let also : opening rows ≡ Ok other = subst (λ o. SpelledBy o other) is spelled in
    cc

granted_well : (h : History) (token : List ℕ) (scopes : List Scope) (it : Course (List (List ℕ))) (f : RequestFault) (note : Note)
    → answer h default_quota (GrantRequest token scopes) ≡ reply.Granted → (HasFailed it → ⊥)
    → RequestFails h (GrantRequest token scopes) token it f → note ≡ note_of_request f → IsGood note
granted_well h token scopes it asked.NotGranted note allowed never fails said = absurd cc
granted_well h token scopes it asked.RecordsFull note allowed never fails said = absurd cc
granted_well h token scopes it (asked.TokenTaken taken) note allowed never fails said = let is = fails.0 in absurd cc
granted_well h token scopes it asked.KeeperFailed note allowed never fails said = absurd (never fails)
granted_well h token scopes it asked.NoMemory note allowed never fails said = inr said

revoked_well : (h : History) (token : List ℕ) (it : Course (List (List ℕ))) (f : RequestFault) (note : Note)
    → answer h default_quota (RevokeRequest token) ≡ reply.Revoked → (HasFailed it → ⊥)
    → RequestFails h (RevokeRequest token) token it f → note ≡ note_of_request f → IsGood note
revoked_well h token it asked.NotGranted note allowed never fails said = absurd cc
revoked_well h token it asked.RecordsFull note allowed never fails said = absurd cc
revoked_well h token it (asked.TokenTaken taken) note allowed never fails said = let is = fails.0 in absurd cc
revoked_well h token it asked.KeeperFailed note allowed never fails said = absurd (never fails)
revoked_well h token it asked.NoMemory note allowed never fails said = inr said

-- ---- commands

grant_well : (out : Outside) (scopes : List Scope) (note : Note) → IsFaultless out → Allows out (Grant scopes)
    → GrantEnds scopes out.rows out.words out.sink note → IsGood note
grant_well out scopes note faultless allows (inl (token, grants, prints)) = prints_well out.sink _ note faultless.sink prints
grant_well out scopes note faultless allows (inr (same, untouched, inl (words, not))) = opens_well out allows.history note allows.opens faultless.rows not
grant_well out scopes note faultless allows (inr (same, untouched, inr (inl not))) = absurd (faultless.words not.failed)
grant_well out scopes note faultless allows (inr (same, untouched, inr (inr not))) =
    let is = same_history out.rows.old allows.opens.rows allows.history not.history allows.opens.told allows.opens.opens not.spelled in
    granted_well allows.history not.token scopes out.rows not.refused.fault note (allows.allowed not.token not.draws) faultless.rows
    (subst (λ h. RequestFails h (GrantRequest not.token scopes) not.token out.rows not.refused.fault) is not.refused.fails) not.refused.said

revoke_well : (out : Outside) (token : List ℕ) (note : Note) → IsFaultless out → Allows out (Revoke token)
    → RevokeEnds token out.rows out.sink note → IsGood note
revoke_well out token note faultless allows (inl (revokes, prints)) = prints_well out.sink _ note faultless.sink prints
revoke_well out token note faultless allows (inr (same, untouched, inl not)) = opens_well out allows.history note allows.opens faultless.rows not
revoke_well out token note faultless allows (inr (same, untouched, inr not)) =
    let is = same_history out.rows.old allows.opens.rows allows.history not.history allows.opens.told allows.opens.opens not.spelled in
    revoked_well allows.history token out.rows not.refused.fault note allows.allowed faultless.rows
    (subst (λ h. RequestFails h (RevokeRequest token) token out.rows not.refused.fault) is not.refused.fails) not.refused.said

-- a connection over which nothing failed
ends_well : (users : Users) (config : Config) (source sink wants entropy : Course (List ℕ)) (old : ℕ → History) (before now : ℕ)
    (served : Served users config source sink entropy old before now) (e : End) (note : Note) → (Rose source.before source.now → ⊥) → (Rose sink.before sink.now → ⊥)
    → EndsSo users config source sink wants entropy old before now served e → note ≡ note_of_end e → IsGood note ⊎ (note ≡ Limit) ⊎ ((place : ℕ) × (note ≡ Message place))
ends_well users config source sink wants entropy old before now served end.Closed note no_source no_sink ends said = inl (inl said)
ends_well users config source sink wants entropy old before now served end.Limit note no_source no_sink ends said = inr (inl said)
ends_well users config source sink wants entropy old before now served end.ReadFault note no_source no_sink ends said = absurd (no_source ends.0)
ends_well users config source sink wants entropy old before now served end.WriteFault note no_source no_sink ends said = absurd (no_sink ends.0)
ends_well users config source sink wants entropy old before now served end.NoMemory note no_source no_sink ends said = inl (inr said)
ends_well users config source sink wants entropy old before now served (end.BadMessage f) note no_source no_sink ends said = inr (inr (f.place, said))

pipes_well : (config : Config) (first : History) (quota : ℕ) (rows : Course (List (List ℕ))) (source sink wants words : Course (List ℕ)) (note : Note)
    → (HasFailed source → ⊥) → (HasFailed sink → ⊥) → Pipes config first quota rows source sink wants words note
    → IsGood note ⊎ (note ≡ Limit) ⊎ ((place : ℕ) × (note ≡ Message place))
pipes_well config first quota rows source sink wants words note no_source no_sink pipes =
    ends_well (users_of pipes.histories quota) config source sink wants words (λ user. first) rows.before rows.now pipes.serves.0
    pipes.end note no_source no_sink pipes.serves.1 pipes.said

not_begun_well : (out : Outside) (token : List ℕ) (scopes : List Scope) (h : History) (f : RequestFault) (note : Note) → (HasFailed out.rows → ⊥)
    → (is_some (scopes_of h token) ≡ true) ⊎ (answer h default_quota (GrantRequest token scopes) ≡ reply.Granted)
    → scopes_of h token ≡ None → RequestFails h (GrantRequest token scopes) token out.rows f → note ≡ note_of_request f → IsGood note
not_begun_well out token scopes h f note never (inl granted) ungranted fails said =
    let wrong : true ≡ false = sym granted ∙ ap is_some ungranted in absurd cc
not_begun_well out token scopes h f note never (inr allowed) ungranted fails said = granted_well h token scopes out.rows f note allowed never fails said

pipe_well : (out : Outside) (config : Config) (token : List ℕ) (scopes : List Scope) (quota : ℕ) (note : Note) → IsFaultless out → AllowsPipe out token scopes
    → PipeEnds config token scopes quota out.rows out.source out.sink out.wants out.words note → IsGood note ⊎ (note ≡ Limit) ⊎ ((place : ℕ) × (note ≡ Message place))
pipe_well out config token scopes quota note faultless allows (inl begun) =
    pipes_well config begun.first quota out.rows out.source out.sink out.wants out.words note faultless.source faultless.sink begun.pipes
pipe_well out config token scopes quota note faultless allows (inr (same, source, sink, words, inl not)) =
    inl (opens_well out allows.history note allows.opens faultless.rows not)
pipe_well out config token scopes quota note faultless allows (inr (same, source, sink, words, inr not)) =
    let is = same_history out.rows.old allows.opens.rows allows.history not.history allows.opens.told allows.opens.opens not.spelled in
    inl (not_begun_well out token scopes allows.history not.refused.fault note faultless.rows allows.allowed
    (subst (λ h. scopes_of h token ≡ None) is not.ungranted)
    (subst (λ h. RequestFails h (GrantRequest token scopes) token out.rows not.refused.fault) is not.refused.fails) not.refused.said)

-- ---- a client's commands

-- what rows spell is read off them
read_off : (journal : List Event) → events_read (map (λ event. Ok (Some event)) journal) ≡ journal
read_off [] = refl
read_off (event ∷ journal) = ap (λ events. event ∷ events) (read_off journal)

state_made : (s : State) (rows : List (List ℕ)) → IsStateOf s rows → s ≡ state_of (events_in rows)
state_made s rows made = made.left ∙ ap state_of (sym (ap events_read made.spelled ∙ read_off made.journal))

-- rows make one client
same_client : (rows : List (List ℕ)) (s other : State) → IsClient s rows → IsClient other rows → other ≡ s
same_client rows s other client another = state_made other rows another.made ∙ sym (state_made s rows client.made)

-- no rows make no client
none_made : (s : State) (rows : List (List ℕ)) → rows ≡ [] → IsClient s rows → ⊥
none_made s rows none client =
    let is = state_made s rows client.made ∙ ap (λ r. state_of (events_in r)) none in
    let never : true ≡ false = sym client.connected ∙ ap (λ (t : State). is_some t.connection) is in
    absurd cc

-- rows that make a client are opened, where the keeper doesn't fail
unopened_well : (f : ClientFault) (it : Course (List (List ℕ))) (rows : List (List ℕ)) (s : State) (note : Note) → IsClient s rows → (HasFailed it → ⊥)
    → IsUnopened f it rows → note ≡ note_of_client f → IsGood note
unopened_well (client.BadRow index place) it rows s note made never not said = let opens = made.opens in absurd cc
unopened_well (client.Unlawful index) it rows s note made never not said = let opens = made.opens in absurd cc
unopened_well client.Connected it rows s note made never not said = absurd not
unopened_well client.NotConnected it rows s note made never not said = absurd (none_made s rows not made)
unopened_well client.SourceFailed it rows s note made never not said = absurd not
unopened_well client.TooLong it rows s note made never not said = absurd not
unopened_well client.OutOfScope it rows s note made never not said = absurd not
unopened_well (client.Clash path) it rows s note made never not said = absurd not
unopened_well client.NotThere it rows s note made never not said = absurd not
unopened_well (client.NoConflict n) it rows s note made never not said = absurd not
unopened_well client.JournalFull it rows s note made never not said = absurd not
unopened_well client.KeeperFailed it rows s note made never not said = absurd (never not)
unopened_well client.NoMemory it rows s note made never not said = inr said

-- a client that allows a call doesn't refuse it
refused_never : (refusal : State → Option CacheFault) (f : ClientFault) (rows : List (List ℕ)) (s : State) → IsClient s rows → refusal s ≡ None
    → IsRefused refusal f rows → ⊥
refused_never refusal f rows s made allowed refused =
    let is = same_client rows s refused.state made refused.client in
    let never : None ≡ Some f = sym (ap (λ r. option_map client_fault (refusal r)) is ∙ ap (option_map client_fault) allowed) ∙ refused.refused in
    absurd cc

-- what is told of told rows
told_of : (P : List (List ℕ) → Type 0) (told : Option (List (List ℕ))) (rows : List (List ℕ)) → told ≡ Some rows → IfSome told P → P rows
told_of P told rows is all = subst (λ o. IfSome o P) is all

added_well : (refusal : State → Option CacheFault) (event : Event) (it : Course (List (List ℕ))) (f : ClientFault) (rows : List (List ℕ)) (s : State) (note : Note)
    → IsClient s rows → refusal s ≡ None → (HasFailed it → ⊥) → AddsOver refusal event it (Err f) rows → note ≡ note_of_client f → IsGood note
added_well refusal event it f rows s note made allowed never (inl refused) said = absurd (refused_never refusal f rows s made allowed refused)
added_well refusal event it f rows s note made allowed never (inr not) said = unopened_well f it rows s note made never not said

add_ends_well : (out : Outside) (refusal : State → Option CacheFault) (event : Event) (word : List ℕ) (note : Note) → IsFaultless out → AllowsAdd out refusal
    → (result : Result (Unit {0}) ClientFault) → IfSome out.rows.old (AddsOver refusal event out.rows result) → SaysDone word out.sink result note → IsGood note
add_ends_well out refusal event word note faultless allows (Ok done) told says = prints_well out.sink _ note faultless.sink says
add_ends_well out refusal event word note faultless allows (Err f) told says =
    let opens = allows.opens in
    added_well refusal event out.rows f opens.rows allows.state note opens.client allows.allowed faultless.rows
    (told_of (AddsOver refusal event out.rows (Err f)) out.rows.old opens.rows opens.told told) says.1

shown_well : {A : Type 0} (answer : State → Option A) (it : Course (List (List ℕ))) (f : ClientFault) (rows : List (List ℕ)) (s : State) (note : Note)
    → IsClient s rows → is_some (answer s) ≡ true → (HasFailed it → ⊥) → ShowsOver answer it (Err f) rows → note ≡ note_of_client f → IsGood note
shown_well answer it (client.BadRow index place) rows s note made some never not said = unopened_well (client.BadRow index place) it rows s note made never not said
shown_well answer it (client.Unlawful index) rows s note made some never not said = unopened_well (client.Unlawful index) it rows s note made never not said
shown_well answer it client.Connected rows s note made some never not said = absurd not
shown_well answer it client.NotConnected rows s note made some never not said = unopened_well client.NotConnected it rows s note made never not said
shown_well answer it client.SourceFailed rows s note made some never not said = absurd not
shown_well answer it client.TooLong rows s note made some never not said = absurd not
shown_well answer it client.OutOfScope rows s note made some never not said = absurd not
shown_well answer it (client.Clash path) rows s note made some never not said = absurd not
shown_well answer it client.NotThere rows s note made some never not said =
    let is = same_client rows s not.0 made not.1 in
    let wrong : true ≡ false = sym some ∙ ap is_some (sym (ap answer is) ∙ not.2) in
    absurd cc
shown_well answer it (client.NoConflict n) rows s note made some never not said = absurd not
shown_well answer it client.JournalFull rows s note made some never not said = absurd not
shown_well answer it client.KeeperFailed rows s note made some never not said = absurd (never not)
shown_well answer it client.NoMemory rows s note made some never not said = inr said

show_ends_well : (out : Outside) (answer : State → Option (List ℕ)) (note : Note) → IsFaultless out → AllowsShow out answer
    → (result : Result (List ℕ) ClientFault) → IfSome out.rows.old (ShowsOver answer out.rows result) → SaysShown out.sink result note → IsGood note
show_ends_well out answer note faultless allows (Ok text) told says = prints_well out.sink _ note faultless.sink says
show_ends_well out answer note faultless allows (Err f) told says =
    let opens = allows.opens in
    shown_well answer out.rows f opens.rows allows.state note opens.client allows.some faultless.rows
    (told_of (ShowsOver answer out.rows (Err f)) out.rows.old opens.rows opens.told told) says.1

-- nothing is wrong with no rows
begun_well : (event : Event) (it : Course (List (List ℕ))) (f : ClientFault) (note : Note) → (HasFailed it → ⊥) → ConnectsOver event it (Err f) []
    → note ≡ note_of_client f → IsGood note
begun_well event it (client.BadRow index place) note never not said = absurd cc
begun_well event it (client.Unlawful index) note never not said = absurd cc
begun_well event it client.Connected note never not said = absurd (none_made not.0 [] refl not.1)
begun_well event it client.NotConnected note never not said = absurd not
begun_well event it client.SourceFailed note never not said = absurd not
begun_well event it client.TooLong note never not said = absurd not
begun_well event it client.OutOfScope note never not said = absurd not
begun_well event it (client.Clash path) note never not said = absurd not
begun_well event it client.NotThere note never not said = absurd not
begun_well event it (client.NoConflict n) note never not said = absurd not
begun_well event it client.JournalFull note never not said = absurd not
begun_well event it client.KeeperFailed note never not said = absurd (never not)
begun_well event it client.NoMemory note never not said = inr said

connect_ends_well : (out : Outside) (event : Event) (note : Note) → IsFaultless out → out.rows.old ≡ Some []
    → (result : Result (Unit {0}) ClientFault) (word : List ℕ) → IfSome out.rows.old (ConnectsOver event out.rows result) → SaysDone word out.sink result note → IsGood note
connect_ends_well out event note faultless empty (Ok done) word told says = prints_well out.sink _ note faultless.sink says
connect_ends_well out event note faultless empty (Err f) word told says =
    begun_well event out.rows f note faultless.rows (told_of (ConnectsOver event out.rows (Err f)) out.rows.old [] empty told) says.1

-- a told source that isn't too long
too_long_never : (told : Option (List ℕ)) (body : List ℕ) → told ≡ Some body → length body ≤ max_body → IfSome told (λ left. max_body < length left) → ⊥
too_long_never told body is short long =
    let more : max_body < length body = subst (λ o. IfSome o (λ left. max_body < length left)) is long in absurd (omega (arith, short, more))

put_other : (out : Outside) (path : Path) (f : ClientFault) (rows : List (List ℕ)) (note : Note) → IsFaultless out → (allows : AllowsPut out path)
    → IsClient allows.adds.state rows → IsRefusedEdit path out.source f rows ⊎ IsUnopened f out.rows rows → note ≡ note_of_client f → IsGood note
put_other out path f rows note faultless allows made (inl it) said =
    absurd (refused_never (λ s. edit_refusal s path) f rows allows.adds.state made allows.adds.allowed it.refused)
put_other out path f rows note faultless allows made (inr not) said = unopened_well f out.rows rows allows.adds.state note made faultless.rows not said

put_well : (out : Outside) (path : Path) (kind : List ℕ) (f : ClientFault) (rows : List (List ℕ)) (note : Note) → IsFaultless out → (allows : AllowsPut out path)
    → IsClient allows.adds.state rows → PutsOver path kind out.rows out.source (Err f) rows → SourceEnds f out.source → note ≡ note_of_client f → IsGood note
put_well out path kind (client.BadRow index place) rows note faultless allows made over ends said = put_other out path (client.BadRow index place) rows note faultless allows made over said
put_well out path kind (client.Unlawful index) rows note faultless allows made over ends said = put_other out path (client.Unlawful index) rows note faultless allows made over said
put_well out path kind client.Connected rows note faultless allows made over ends said = put_other out path client.Connected rows note faultless allows made over said
put_well out path kind client.NotConnected rows note faultless allows made over ends said = put_other out path client.NotConnected rows note faultless allows made over said
put_well out path kind client.SourceFailed rows note faultless allows made over ends said = absurd (faultless.source ends)
put_well out path kind client.TooLong rows note faultless allows made over ends said = absurd (too_long_never out.source.old allows.body allows.told allows.short ends)
put_well out path kind client.OutOfScope rows note faultless allows made over ends said = put_other out path client.OutOfScope rows note faultless allows made over said
put_well out path kind (client.Clash other) rows note faultless allows made over ends said = put_other out path (client.Clash other) rows note faultless allows made over said
put_well out path kind client.NotThere rows note faultless allows made over ends said = put_other out path client.NotThere rows note faultless allows made over said
put_well out path kind (client.NoConflict n) rows note faultless allows made over ends said = put_other out path (client.NoConflict n) rows note faultless allows made over said
put_well out path kind client.JournalFull rows note faultless allows made over ends said = put_other out path client.JournalFull rows note faultless allows made over said
put_well out path kind client.KeeperFailed rows note faultless allows made over ends said = put_other out path client.KeeperFailed rows note faultless allows made over said
put_well out path kind client.NoMemory rows note faultless allows made over ends said = put_other out path client.NoMemory rows note faultless allows made over said

put_ends_well : (out : Outside) (path : Path) (kind : List ℕ) (note : Note) → IsFaultless out → AllowsPut out path
    → (result : Result (Unit {0}) ClientFault) → IfSome out.rows.old (PutsOver path kind out.rows out.source result)
    → IfErr result (λ f. SourceEnds f out.source) → SaysDone (codes "put") out.sink result note → IsGood note
put_ends_well out path kind note faultless allows (Ok done) told ends says = prints_well out.sink _ note faultless.sink says
put_ends_well out path kind note faultless allows (Err f) told ends says =
    let opens = allows.adds.opens in
    put_well out path kind f opens.rows note faultless allows opens.client
    (told_of (PutsOver path kind out.rows out.source (Err f)) out.rows.old opens.rows opens.told told) ends says.1

does_well : (out : Outside) (command : Command) (note : Note) → IsFaultless out → Allows out command → Does out command note → Succeeds command note
does_well out (Pipe serving) note faultless allows does =
    pipe_well out (config_of serving.user.now (setting_in serving)) serving.token serving.scopes serving.quota note faultless allows does
does_well out (Grant scopes) note faultless allows does = grant_well out scopes note faultless allows does.1
does_well out (Revoke token) note faultless allows does = revoke_well out token note faultless allows does.2
does_well out (Connect root token scopes) note faultless allows does =
    let ends = does.2 in
    connect_ends_well out (event.Connect root token scopes) note faultless allows ends.result (codes "connected") ends.connects.told ends.says
does_well out (Put document kind) note faultless allows does =
    let ends = does.1 in
    put_ends_well out document.path kind note faultless allows ends.result ends.puts.told ends.puts.ends ends.says
does_well out (Get document) note faultless allows does =
    show_ends_well out (shown_document document.path) note faultless allows does.2.result does.2.shows.told does.2.says
does_well out (Remove document) note faultless allows does =
    add_ends_well out (λ s. remove_refusal s document.path) (event.Edit document.path change.Remove) (codes "removed") note faultless allows
    does.2.result does.2.adds.told does.2.says
does_well out (ListFolder folder) note faultless allows does =
    show_ends_well out (shown_listing folder.path) note faultless allows does.2.result does.2.shows.told does.2.says
does_well out Status note faultless allows does =
    show_ends_well out shown_summary note faultless allows does.2.result does.2.shows.told does.2.says
does_well out Conflicts note faultless allows does =
    show_ends_well out shown_conflicts note faultless allows does.2.result does.2.shows.told does.2.says
does_well out (Resolve n how) note faultless allows does =
    add_ends_well out (λ s. resolve_refusal s n how) (event.Resolved n how) (codes "resolved") note faultless allows
    does.2.result does.2.adds.told does.2.says
does_well out Help note faultless allows does = prints_well out.sink _ note faultless.sink does.prints
does_well out Version note faultless allows does = prints_well out.sink _ note faultless.sink does.prints

pub complete : (out : Outside) (words : List (List ℕ)) (note : Note) → Runs out words note → wrong_word words ≡ None → IsFaultless out
    → ((command : Command) → AsksFor command words → Allows out command) → IsComplete words note
complete out words note (inl does) right faultless allowed =
    inl (does.command, does.asked, does_well out does.command note faultless (allowed does.command does.asked) does.done)
complete out words note (inr (inl wrong, still)) right faultless allowed =
    let never : None ≡ Some wrong.fault = sym (ap (option_map (words_fault words)) right) ∙ wrong.wrong in absurd cc
complete out words note (inr (inr said, still)) right faultless allowed = inr said
