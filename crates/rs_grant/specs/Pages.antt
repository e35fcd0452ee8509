-- The page that asks the user: fixed parts, with escaped texts between them (own).
use Rattle.std.specs.Prelude.{ℕ, List, [], ◌∷◌, ◌++◌, Option, Some, None, codes}
use Rattle.std.specs.List.{flat_map}
use Rattle.rs_scope.specs.Scopes.{scopes_text}
use Rattle.rs_grant.specs.declared.ask.Ask.{Ask}
use Rattle.rs_grant.specs.Escapes.{escaped_text}

-- a fixed part, and the text behind it
abbrev pub Part : Type 0
Part = List ℕ × List ℕ

abbrev pub part_text : Part → List ℕ
part_text part = part.0 ++ escaped_text part.1

abbrev pub page_head : List ℕ
page_head = codes "<!DOCTYPE html>\n<html><head><meta charset=\"utf-8\"><title>Grant access</title></head><body>\n<p>"

abbrev pub page_end : List ℕ
page_end = codes "\">\n<input type=\"password\" name=\"password\">\n<button name=\"choice\" value=\"allow\">Allow</button>\n<button name=\"choice\" value=\"deny\">Deny</button>\n</form></body></html>\n"

abbrev pub before_scopes : List ℕ
before_scopes = codes " asks for "

abbrev pub before_user : List ℕ
before_user = codes " on the storage of "

abbrev pub before_action : List ℕ
before_action = codes ".</p>\n<form method=\"post\" action=\"/oauth/"

abbrev pub before_client : List ℕ
before_client = codes "\">\n<input type=\"hidden\" name=\"response_type\" value=\"token\">\n<input type=\"hidden\" name=\"client_id\" value=\""

abbrev pub before_redirect : List ℕ
before_redirect = codes "\">\n<input type=\"hidden\" name=\"redirect_uri\" value=\""

abbrev pub before_scope : List ℕ
before_scope = codes "\">\n<input type=\"hidden\" name=\"scope\" value=\""

abbrev pub before_state : List ℕ
before_state = codes "\">\n<input type=\"hidden\" name=\"state\" value=\""

-- who asks for what
abbrev pub shown_parts : List ℕ → List ℕ → List ℕ → List Part
shown_parts user origin scopes = (page_head, origin) ∷ (before_scopes, scopes) ∷ (before_user, user) ∷ []

-- the fields of the form
abbrev pub hidden_parts : List ℕ → List ℕ → List ℕ → List ℕ → List Part
hidden_parts user client redirect scopes =
    (before_action, user) ∷ (before_client, client) ∷ (before_redirect, redirect) ∷ (before_scope, scopes) ∷ []

-- the field for the state, where one was sent
abbrev pub state_parts : Option (List ℕ) → List Part
state_parts None = []
state_parts (Some state) = (before_state, state) ∷ []

abbrev pub page_parts : List ℕ → Ask → List Part
page_parts user ask = shown_parts user ask.origin (scopes_text ask.scopes)
    ++ (hidden_parts user ask.client ask.redirect (scopes_text ask.scopes) ++ state_parts ask.state)

abbrev pub page_text : List ℕ → Ask → List ℕ
page_text user ask = flat_map part_text (page_parts user ask) ++ page_end

-- the fixed parts
abbrev pub state_fixed : Option (List ℕ) → List (List ℕ)
state_fixed None = []
state_fixed (Some state) = before_state ∷ []

abbrev pub fixed_parts : Option (List ℕ) → List (List ℕ)
fixed_parts state = page_head ∷ before_scopes ∷ before_user ∷ before_action ∷ before_client ∷ before_redirect
    ∷ before_scope ∷ state_fixed state
