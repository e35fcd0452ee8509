-- How a query is read as an authorisation request: what is asked, or why it isn't shown (RFC 6749, sections 3.1.2,
-- 4.2.1 and 4.2.2.1).
use Rattle.std.specs.Prelude.{◌≡◌, ℕ, Bool, true, ◌&&◌, ◌||◌, nat_lt, List, ◌∷◌, length, Option, Some, None, is_none, Result, Ok, Err, IfSome, IsUtf8, codes, if◌then◌else◌}
use Rattle.std.specs.Str.{bytes_eq}
use Rattle.url.specs.Parts.{Parts, serialize, IsValid}
use Rattle.url.specs.Parser.{Parsed, parse_url}
use Rattle.url.specs.Origin.{is_http, origin_of, ascii_serialization}
use Rattle.rs_scope.specs.declared.scope.Scope.{Scope}
use Rattle.rs_scope.specs.declared.scope_fault.ScopeFault.{ScopeFault}
use Rattle.rs_scope.specs.Scopes.{scopes_text}
use Rattle.rs_scope.specs.ScopeReadings.{scopes_reading}
use Rattle.rs_form.specs.Fields.{form_values, one_value, first_value}
use Rattle.rs_grant.specs.declared.ask.Ask.{Ask}
use Rattle.rs_grant.specs.declared.asking.Refusal.{Refusal}
use Rattle.rs_grant.specs.declared.grant_word.GrantWord.{GrantWord}
use Rattle.rs_grant.specs.declared.grant_word.GrantWord.TheVariants.{InvalidRequest, UnsupportedResponseType, InvalidScope}
use Rattle.rs_grant.specs.declared.grant_fault.GrantFault.{GrantFault}
use Rattle.rs_grant.specs.declared.grant_fault.GrantFault.TheVariants.{BadRedirect, Word, NoMemory}

-- a URL that a redirect may go to: `http` or `https`, and no fragment, not even an empty one
abbrev pub is_redirect : Parts → Bool
is_redirect url = is_http url.scheme && is_none url.fragment

abbrev pub redirect_url : Parsed Parts → Option Parts
redirect_url (Err fault) = None
redirect_url (Ok url) = if is_redirect url then Some url else None

-- the redirect address of a text, where one stands
abbrev pub redirect_of : Option (List ℕ) → Option Parts
redirect_of None = None
redirect_of (Some text) = redirect_url (parse_url None text)

-- the client and its scopes, or the word that refuses them
abbrev pub Asked : Type 0
Asked = Result (List ℕ × List Scope) GrantWord

abbrev pub scopes_read : List ℕ → Result (List Scope) ScopeFault → Asked
scopes_read client (Err fault) = Err InvalidScope
scopes_read client (Ok scopes) = Ok (client, scopes)

-- `scope` is missing or isn't read
abbrev pub scopes_asked : List ℕ → Option (List ℕ) → Asked
scopes_asked client None = Err InvalidScope
scopes_asked client (Some text) = scopes_read client (scopes_reading text)

-- `response_type` and `client_id` stand once, and the first is `token`
abbrev pub token_asked : Option (List ℕ) → Option (List ℕ) → Option (List ℕ) → Asked
token_asked None client scope = Err InvalidRequest
token_asked (Some response) None scope = Err InvalidRequest
token_asked (Some response) (Some client) scope =
    if bytes_eq response (codes "token") then scopes_asked client scope else Err UnsupportedResponseType

abbrev pub is_repeated : List (List ℕ) → Bool
is_repeated values = nat_lt 1 (length values)

-- what is asked by the values of `response_type`, `client_id`, `scope` and `state`
abbrev pub asked : List (List ℕ) → List (List ℕ) → List (List ℕ) → List (List ℕ) → Asked
asked responses clients scopes states = if is_repeated scopes || is_repeated states then Err InvalidRequest
    else token_asked (one_value responses) (one_value clients) (first_value scopes)

-- what is asked with this redirect address and this state
abbrev pub ask_at : Parts → Option (List ℕ) → Asked → Result Ask GrantFault
ask_at url state (Err word) = Err (Word word (serialize url) state)
ask_at url state (Ok fields) = Ok (record {
  redirect = serialize url;
  origin = ascii_serialization (origin_of url);
  client = fields.0;
  scopes = fields.1;
  state = state;
})

abbrev pub ask_from : Option Parts → List ℕ → Result Ask GrantFault
ask_from None query = Err BadRedirect
ask_from (Some url) query = ask_at url (first_value (form_values (codes "state") query))
    (asked (form_values (codes "response_type") query) (form_values (codes "client_id") query)
    (form_values (codes "scope") query) (form_values (codes "state") query))

abbrev pub ask_reading : List ℕ → Result Ask GrantFault
ask_reading query = ask_from (redirect_of (one_value (form_values (codes "redirect_uri") query))) query

-- the call read this, or memory ran out
abbrev pub ReadsAsk : Result Ask GrantFault → Result Ask GrantFault → Type 0
ReadsAsk (Ok ask) wanted = wanted ≡ Ok ask
ReadsAsk (Err BadRedirect) wanted = wanted ≡ Err BadRedirect
ReadsAsk (Err (Word word redirect state)) wanted = wanted ≡ Err (Word word redirect state)
ReadsAsk (Err NoMemory) wanted = Unit {0}

-- a text that a redirect may go to: a URL as `url` prints it
abbrev pub IsAddress : List ℕ → Type 0
IsAddress text = (url : Parts) × (IsValid url × ((is_redirect url ≡ true) × (text ≡ serialize url)))

-- an ask of this URL: its address and its origin as `url` prints them, and texts that are UTF-8
pub record IsAskAt (url : Parts) (ask : Ask) : Type 0 where
  pub valid : IsValid url
  pub may : is_redirect url ≡ true
  pub redirect : ask.redirect ≡ serialize url
  pub origin : ask.origin ≡ ascii_serialization (origin_of url)
  pub client : IsUtf8 ask.client
  pub state : IfSome ask.state IsUtf8

abbrev pub IsAsk : Ask → Type 0
IsAsk ask = (url : Parts) × IsAskAt url ask

-- what was read can be answered by a redirect that is read back, but for a bad redirect address
abbrev pub CanBeAnswered : Result Ask GrantFault → Type 0
CanBeAnswered (Ok ask) = IsAsk ask
CanBeAnswered (Err BadRedirect) = Unit {0}
CanBeAnswered (Err (Word word redirect state)) = IsAddress redirect × IfSome state IsUtf8
CanBeAnswered (Err NoMemory) = Unit {0}

-- a client that is UTF-8
abbrev pub HasClient : Result (List ℕ × List Scope) Refusal → Type 0
HasClient (Ok fields) = IsUtf8 fields.0
HasClient (Err refusal) = Unit {0}

-- the same of the client and its scopes
abbrev pub ReadsAsked : Result (List ℕ × List Scope) Refusal → Asked → Type 0
ReadsAsked (Ok fields) wanted = wanted ≡ Ok fields
ReadsAsked (Err (Refusal.Word word)) wanted = wanted ≡ Err word
ReadsAsked (Err Refusal.NoMemory) wanted = Unit {0}

-- the fields that ask for this, as a query or a form sends them
abbrev pub ask_fields : List ℕ → List ℕ → List Scope → List (List ℕ × List ℕ) → List (List ℕ × List ℕ)
ask_fields redirect client scopes others = (codes "response_type", codes "token") ∷ (codes "client_id", client)
    ∷ (codes "redirect_uri", redirect) ∷ (codes "scope", scopes_text scopes) ∷ others
