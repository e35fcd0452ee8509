-- Where no count of faults rose and nothing refuses, a command succeeds or memory ran out.
use Rattle.std.specs.Prelude.{◌≡◌, ◌≤◌, ℕ, ◌⊎◌, true, List, [], length, Option, Some, None, Ok, is_some}
use Rattle.rs_path.specs.Limits.{max_body}
use Rattle.rs_path.specs.Paths.{Path}
use Rattle.rs_scope.specs.declared.scope.Scope.{Scope}
use Rattle.rs_rules.specs.declared.reply.Reply.TheVariants as reply
use Rattle.rs_rules.specs.declared.request.Request.TheVariants.{Grant as GrantRequest, Revoke as RevokeRequest}
use Rattle.rs_rules.specs.Histories.{History}
use Rattle.rs_rules.specs.Tokens.{scopes_of}
use Rattle.rs_rules.specs.Answers.{answer}
use Rattle.rs_user.specs.Openings.{opening}
use Rattle.rs_cache.specs.declared.cache_fault.CacheFault.{CacheFault}
use Rattle.rs_cache.specs.States.{State}
use Rattle.rs_cache.specs.Refusals.{edit_refusal, remove_refusal, resolve_refusal}
use Rattle.rs_client.specs.Answers.{shown_document, shown_listing, shown_summary, shown_conflicts}
use Rattle.rs_client.specs.Clients.{IsClient}
use Rattle.rs_cli.specs.declared.command.Command.{Command}
use Rattle.rs_cli.specs.declared.command.Command.TheVariants.{Pipe, Grant, Revoke, Connect, Put, Get, Remove, List as ListFolder, Status, Conflicts, Resolve, Help, Version}
use Rattle.rs_cli.specs.declared.note.Note.{Note}
use Rattle.rs_cli.specs.declared.note.Note.TheVariants.{Empty, NoMemory, Limit, Message}
use Rattle.rs_cli.specs.Commands.{AsksFor, default_quota}
use Rattle.rs_cli.specs.Outsides.{Outside}
use Rattle.rs_front.specs.Drawing.{DrawsToken}

-- the told rows are opened as the history
pub record OpensAs (out : Outside) (h : History) : Type 0 where
  pub rows : List (List ℕ)
  pub told : out.rows.old ≡ Some rows
  pub opens : opening rows ≡ Ok h

-- the rows are opened, and nothing refuses `pipe`: the token is granted, or may be
pub record AllowsPipe (out : Outside) (token : List ℕ) (scopes : List Scope) : Type 0 where
  pub history : History
  pub opens : OpensAs out history
  pub allowed : (is_some (scopes_of history token) ≡ true) ⊎ (answer history default_quota (GrantRequest token scopes) ≡ reply.Granted)

-- the rows are opened, and nothing refuses `grant`: the token of any two words that may have been drawn may be granted
pub record AllowsGrant (out : Outside) (scopes : List Scope) : Type 0 where
  pub history : History
  pub opens : OpensAs out history
  pub allowed : (token : List ℕ) → DrawsToken out.words token → answer history default_quota (GrantRequest token scopes) ≡ reply.Granted

-- the rows are opened, and nothing refuses `revoke`: the token's scopes may be taken away
pub record AllowsRevoke (out : Outside) (token : List ℕ) : Type 0 where
  pub history : History
  pub opens : OpensAs out history
  pub allowed : answer history default_quota (RevokeRequest token) ≡ reply.Revoked

-- ---- a client's commands

-- the told rows make this connected client
pub record OpensClient (out : Outside) (s : State) : Type 0 where
  pub rows : List (List ℕ)
  pub told : out.rows.old ≡ Some rows
  pub client : IsClient s rows

-- the rows make a client, and it refuses nothing
pub record AllowsAdd (out : Outside) (refusal : State → Option CacheFault) : Type 0 where
  pub state : State
  pub opens : OpensClient out state
  pub allowed : refusal state ≡ None

-- the same, and the told source isn't too long
pub record AllowsPut (out : Outside) (path : Path) : Type 0 where
  pub adds : AllowsAdd out (λ s. edit_refusal s path)
  pub body : List ℕ
  pub told : out.source.old ≡ Some body
  pub short : length body ≤ max_body

-- the rows make a client that has this to show
pub record AllowsShow (out : Outside) (answer : State → Option (List ℕ)) : Type 0 where
  pub state : State
  pub opens : OpensClient out state
  pub some : is_some (answer state) ≡ true

-- ---- all commands

-- nothing refuses the command
abbrev pub Allows : Outside → Command → Type 0
Allows out (Pipe serving) = AllowsPipe out serving.token serving.scopes
Allows out (Grant scopes) = AllowsGrant out scopes
Allows out (Revoke token) = AllowsRevoke out token
Allows out (Connect root token scopes) = out.rows.old ≡ Some []
Allows out (Put document kind) = AllowsPut out document.path
Allows out (Get document) = AllowsShow out (shown_document document.path)
Allows out (Remove document) = AllowsAdd out (λ s. remove_refusal s document.path)
Allows out (ListFolder folder) = AllowsShow out (shown_listing folder.path)
Allows out Status = AllowsShow out shown_summary
Allows out Conflicts = AllowsShow out shown_conflicts
Allows out (Resolve n how) = AllowsAdd out (λ s. resolve_refusal s n how)
Allows out Help = Unit {0}
Allows out Version = Unit {0}

-- success, or want of memory
abbrev pub IsGood : Note → Type 0
IsGood note = (note ≡ Empty) ⊎ (note ≡ NoMemory)

-- the command succeeded or wanted memory; a connection that was served may also end by what came in over it: after 1,000
-- replies, or at bytes that are no request
abbrev pub Succeeds : Command → Note → Type 0
Succeeds (Pipe serving) note = IsGood note ⊎ (note ≡ Limit) ⊎ ((place : ℕ) × (note ≡ Message place))
Succeeds command note = IsGood note

-- the words ask for a command that succeeded or wanted memory, or they themselves wanted memory
abbrev pub IsComplete : List (List ℕ) → Note → Type 0
IsComplete words note = ((command : Command) × AsksFor command words × Succeeds command note) ⊎ (note ≡ NoMemory)
