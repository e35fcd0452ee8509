-- What asks for a grant is read as what was asked.
use Rattle.std.proofs.Common.{◌≡◌, ℕ, Bool, true, false, ◌||◌, cond, nat_lt, List, [], ◌∷◌, ◌++◌, Option, Some, None, is_none, Ok, codes, All, IsUtf8, IfSome, refl, sym, ap, ap₂, ◌∙◌, arith, subst}
use Rattle.std.specs.List.{list_all}
use Rattle.std.specs.Str.{bytes_eq}
use Rattle.std.proofs.lemmas.Bool.{and_parts, and_from}
use Rattle.std.proofs.lemmas.Bool.Decides.{nat_tests}
use Rattle.std.proofs.lemmas.List.Elements.{All-nil, All-cons, All-append}
use Rattle.std.proofs.lemmas.Slice.Eq.{bytes_eq-Decides}
use Rattle.std.proofs.lemmas.Str.{IsUtf8-append, IsUtf8-from_ascii, IsUtf8-nil}
use Rattle.form_urlencoded.specs.Form.{extend_pairs}
use Rattle.url.specs.declared.scheme.SchemeType.TheVariants.{SpecialNotFile}
use Rattle.url.specs.Scheme.{default_port, scheme_type}
use Rattle.url.specs.Origin.{is_http}
use Rattle.url.specs.Parts.{Parts, kind_of, serialize, IsValid}
use Rattle.url.proofs.Theorems.{parse_url-serialize_special}
use Rattle.url.proofs.ValidLemmas.{IsAscii-serialize}
use Rattle.rs_scope.specs.declared.scope.Reach.{Reach}
use Rattle.rs_scope.specs.declared.scope.Reach.TheVariants.{Module, Star}
use Rattle.rs_scope.specs.declared.scope.Scope.{Scope}
use Rattle.rs_scope.specs.Modules.{is_module_byte, is_module}
use Rattle.rs_scope.specs.Scopes.{reach_text, access_text, scope_text, scopes_text, is_reach, is_scope, is_scopes}
use Rattle.rs_scope.proofs.Cited.{HasScopes-from, scopes_reading-text}
use Rattle.rs_form.specs.Fields.{form_fields, values_among, form_values, one_value, first_value, IsTextField}
use Rattle.rs_form.proofs.Cited.{form_back}
use Rattle.rs_grant.specs.declared.ask.Ask.{Ask}
use Rattle.rs_grant.specs.Asks.{IsAskAt, is_redirect, redirect_url, redirect_of, scopes_read, ask_fields, ask_at, ask_from, ask_reading, asked}
use Rattle.rs_grant.specs.Consents.{choice_of, choice_among, choice_reading, with_choice, consent_reading, choice_fields, sent_fields}
use Rattle.rs_grant.specs.Redirects.{state_fields}
use Rattle.rs_grant.proofs.RedirectLemmas.{literal, state_texts}

-- ---- a redirect address is read back

http_kind : (scheme : List ℕ) → bytes_eq scheme (codes "http") ≡ true → scheme_type scheme ≡ SpecialNotFile
unfolding scheme_type default_port
http_kind scheme is = ap scheme_type ((bytes_eq-Decides scheme (codes "http")).0 is)

https_kind : (scheme : List ℕ) → bytes_eq scheme (codes "https") ≡ true → scheme_type scheme ≡ SpecialNotFile
unfolding scheme_type default_port
https_kind scheme is = ap scheme_type ((bytes_eq-Decides scheme (codes "https")).0 is)

kind_by : (test : Bool) (scheme : List ℕ) → bytes_eq scheme (codes "http") ≡ test → (test || bytes_eq scheme (codes "https")) ≡ true
    → scheme_type scheme ≡ SpecialNotFile
kind_by true scheme http is = http_kind scheme http
kind_by false scheme http is = https_kind scheme is

pub redirect_kind : (url : Parts) → is_redirect url ≡ true → kind_of url ≡ SpecialNotFile
redirect_kind url is =
    kind_by (bytes_eq url.scheme (codes "http")) url.scheme refl (and_parts (is_http url.scheme) (is_none url.fragment) is).0

redirect_again : (url : Parts) → IsValid url → is_redirect url ≡ true → redirect_of (Some (serialize url)) ≡ Some url
redirect_again url valid is =
    ap redirect_url (parse_url-serialize_special url None valid (redirect_kind url is)) ∙ ap (λ (test : Bool). cond test (Some url) None) is

-- ---- scopes are texts

module_bytes : (name : List ℕ) → list_all is_module_byte name ≡ true → list_all (λ byte. nat_lt byte 128) name ≡ true
module_bytes [] all = refl
module_bytes (byte ∷ name) all =
    let parts = and_parts (is_module_byte byte) (list_all is_module_byte name) all in
    let first = parts.0 in
    let low : nat_lt byte 128 ≡ true = grind (arith, nat_tests) in
    and_from (nat_lt byte 128) (list_all (λ b. nat_lt b 128) name) low (module_bytes name parts.1)

module_text : (name : List ℕ) → is_module name ≡ true → IsUtf8 name
module_text name is =
    let a = and_parts _ _ is in
    let b = and_parts _ _ a.0 in
    literal name (module_bytes name (and_parts _ _ b.0).1)

reach_utf8 : (reach : Reach) → is_reach reach ≡ true → IsUtf8 (reach_text reach)
reach_utf8 (Module name) is = module_text name is
reach_utf8 Star is = literal (42 ∷ []) refl

access_utf8 : (write : Bool) → IsUtf8 (access_text write)
access_utf8 true = literal (codes ":rw") refl
access_utf8 false = literal (codes ":r") refl

scope_utf8 : (scope : Scope) → is_scope scope ≡ true → IsUtf8 (scope_text scope)
scope_utf8 scope is = IsUtf8-append (reach_text scope.reach) (access_text scope.write) (reach_utf8 scope.reach is) (access_utf8 scope.write)

scopes_utf8 : (scopes : List Scope) → list_all is_scope scopes ≡ true → IsUtf8 (scopes_text scopes)
scopes_utf8 [] all = IsUtf8-nil
scopes_utf8 (scope ∷ []) all = scope_utf8 scope (and_parts (is_scope scope) true all).0
scopes_utf8 (scope ∷ next ∷ scopes) all =
    let parts = and_parts (is_scope scope) (list_all is_scope (next ∷ scopes)) all in
    IsUtf8-append (scope_text scope) (32 ∷ scopes_text (next ∷ scopes)) (scope_utf8 scope parts.0)
    (IsUtf8-append (32 ∷ []) (scopes_text (next ∷ scopes)) (literal (32 ∷ []) refl) (scopes_utf8 (next ∷ scopes) parts.1))

-- ---- the fields

fields_back : (redirect client : List ℕ) (scopes : List Scope) (others : List (List ℕ × List ℕ)) → IsUtf8 redirect → IsUtf8 client → IsUtf8 (scopes_text scopes)
    → All IsTextField others → form_fields (extend_pairs [] (ask_fields redirect client scopes others)) ≡ ask_fields redirect client scopes others
fields_back redirect client scopes others r c s all =
    let scope : List (List ℕ × List ℕ) = (codes "scope", scopes_text scopes) ∷ others in
    let to : List (List ℕ × List ℕ) = (codes "redirect_uri", redirect) ∷ scope in
    let own : List (List ℕ × List ℕ) = (codes "client_id", client) ∷ to in
    let with_scope = All-cons IsTextField (codes "scope", scopes_text scopes) others (literal (codes "scope") refl, s) all in
    let with_redirect = All-cons IsTextField (codes "redirect_uri", redirect) scope (literal (codes "redirect_uri") refl, r) with_scope in
    let with_client = All-cons IsTextField (codes "client_id", client) to (literal (codes "client_id") refl, c) with_redirect in
    form_back (ask_fields redirect client scopes others)
    (All-cons IsTextField (codes "response_type", codes "token") own (literal (codes "response_type") refl, literal (codes "token") refl) with_client)

-- fields that say nothing but the state of what is asked
pub record SayState (others : List (List ℕ × List ℕ)) (state : Option (List ℕ)) : Type 0 where
  pub redirect : values_among (codes "redirect_uri") others ≡ []
  pub response : values_among (codes "response_type") others ≡ []
  pub client : values_among (codes "client_id") others ≡ []
  pub scope : values_among (codes "scope") others ≡ []
  pub same : values_among (codes "state") others ≡ values_among (codes "state") (state_fields state)

SayState-own : (state : Option (List ℕ)) → SayState (state_fields state) state
SayState-own None = record { redirect = refl; response = refl; client = refl; scope = refl; same = refl }
SayState-own (Some state) = record { redirect = refl; response = refl; client = refl; scope = refl; same = refl }

asked_back : (client : List ℕ) (scopes : List Scope) (state : Option (List ℕ)) → is_scopes scopes ≡ true
    → asked (codes "token" ∷ []) (client ∷ []) (scopes_text scopes ∷ []) (values_among (codes "state") (state_fields state)) ≡ Ok (client, scopes)
asked_back client scopes None is = ap (scopes_read client) (scopes_reading-text scopes is)
asked_back client scopes (Some state) is = ap (scopes_read client) (scopes_reading-text scopes is)

first_state : (state : Option (List ℕ)) → first_value (values_among (codes "state") (state_fields state)) ≡ state
first_state None = refl
first_state (Some state) = refl

-- what the fields say, whatever text they were read from
of_fields : (query : List ℕ) (url : Parts) (client : List ℕ) (scopes : List Scope) (state : Option (List ℕ)) (others : List (List ℕ × List ℕ)) → IsValid url
    → is_redirect url ≡ true → is_scopes scopes ≡ true → SayState others state → form_fields query ≡ ask_fields (serialize url) client scopes others
    → ask_reading query ≡ ask_at url state (Ok (client, scopes))
of_fields query url client scopes state others valid is lawful say fields =
    let value : (name : List ℕ) → form_values name query ≡ values_among name (ask_fields (serialize url) client scopes others) =
    λ name. ap (values_among name) fields in
    let redirects : form_values (codes "redirect_uri") query ≡ serialize url ∷ [] =
    value (codes "redirect_uri") ∙ ap (λ (xs : List (List ℕ)). serialize url ∷ xs) say.redirect in
    let responses : form_values (codes "response_type") query ≡ codes "token" ∷ [] =
    value (codes "response_type") ∙ ap (λ (xs : List (List ℕ)). codes "token" ∷ xs) say.response in
    let clients : form_values (codes "client_id") query ≡ client ∷ [] =
    value (codes "client_id") ∙ ap (λ (xs : List (List ℕ)). client ∷ xs) say.client in
    let texts : form_values (codes "scope") query ≡ scopes_text scopes ∷ [] =
    value (codes "scope") ∙ ap (λ (xs : List (List ℕ)). scopes_text scopes ∷ xs) say.scope in
    let states : form_values (codes "state") query ≡ values_among (codes "state") (state_fields state) = value (codes "state") ∙ say.same in
    let url_is : redirect_of (one_value (form_values (codes "redirect_uri") query)) ≡ Some url =
    ap (λ (xs : List (List ℕ)). redirect_of (one_value xs)) redirects ∙ redirect_again url valid is in
    let state_is : first_value (form_values (codes "state") query) ≡ state = ap first_value states ∙ first_state state in
    let fields_are : asked (form_values (codes "response_type") query) (form_values (codes "client_id") query)
    (form_values (codes "scope") query) (form_values (codes "state") query) ≡ Ok (client, scopes) =
    ap (λ xs. asked xs (form_values (codes "client_id") query) (form_values (codes "scope") query) (form_values (codes "state") query)) responses
    ∙ ap (λ xs. asked (codes "token" ∷ []) xs (form_values (codes "scope") query) (form_values (codes "state") query)) clients
    ∙ ap (λ xs. asked (codes "token" ∷ []) (client ∷ []) xs (form_values (codes "state") query)) texts
    ∙ ap (λ xs. asked (codes "token" ∷ []) (client ∷ []) (scopes_text scopes ∷ []) xs) states
    ∙ asked_back client scopes state lawful in
    ap (λ o. ask_from o query) url_is ∙ ap₂ (ask_at url) state_is fields_are

pub ask_back : (url : Parts) (client : List ℕ) (scopes : List Scope) (state : Option (List ℕ)) → IsValid url → is_redirect url ≡ true → IsUtf8 client
    → is_scopes scopes ≡ true → IfSome state IsUtf8
    → ask_reading (extend_pairs [] (ask_fields (serialize url) client scopes (state_fields state))) ≡ ask_at url state (Ok (client, scopes))
ask_back url client scopes state valid is c lawful t =
    let redirect = IsUtf8-from_ascii (serialize url) (IsAscii-serialize url valid) in
    let text = scopes_utf8 scopes (HasScopes-from scopes lawful).lawful in
    of_fields (extend_pairs [] (ask_fields (serialize url) client scopes (state_fields state))) url client scopes state (state_fields state) valid is lawful
    (SayState-own state) (fields_back (serialize url) client scopes (state_fields state) redirect c text (state_texts state t))

-- ---- what the form of a page sends

sent_say : (state : Option (List ℕ)) (password choice : List ℕ) → SayState (state_fields state ++ choice_fields password choice) state
sent_say None password choice = record { redirect = refl; response = refl; client = refl; scope = refl; same = refl }
sent_say (Some state) password choice = record { redirect = refl; response = refl; client = refl; scope = refl; same = refl }

choice_texts : (password choice : List ℕ) → IsUtf8 password → IsUtf8 choice → All IsTextField (choice_fields password choice)
choice_texts password choice p c =
    All-cons IsTextField (codes "password", password) ((codes "choice", choice) ∷ []) (literal (codes "password") refl, p)
    (All-cons IsTextField (codes "choice", choice) [] (literal (codes "choice") refl, c) (All-nil IsTextField))

own_choice : (redirect client : List ℕ) (scopes : List Scope) (state : Option (List ℕ)) (password choice : List ℕ)
    → choice_among (ask_fields redirect client scopes (state_fields state ++ choice_fields password choice)) ≡ choice_of (Some choice) (Some password)
own_choice redirect client scopes None password choice = refl
own_choice redirect client scopes (Some state) password choice = refl

pub consent_back : (url : Parts) (ask : Ask) (password choice : List ℕ) → IsAskAt url ask → is_scopes ask.scopes ≡ true → IsUtf8 password → IsUtf8 choice
    → consent_reading (extend_pairs [] (sent_fields ask password choice)) ≡ Ok (ask, choice_of (Some choice) (Some password))
consent_back url ask password choice at lawful p c =
    let others = state_fields ask.state ++ choice_fields password choice in
    let query = extend_pairs [] (sent_fields ask password choice) in
    let redirect = subst IsUtf8 (sym at.redirect) (IsUtf8-from_ascii (serialize url) (IsAscii-serialize url at.valid)) in
    let text = scopes_utf8 ask.scopes (HasScopes-from ask.scopes lawful).lawful in
    let all = All-append IsTextField (state_fields ask.state) (choice_fields password choice) (state_texts ask.state at.state) (choice_texts password choice p c) in
    let fields = fields_back ask.redirect ask.client ask.scopes others redirect at.client text all in
    let same : ask_fields ask.redirect ask.client ask.scopes others ≡ ask_fields (serialize url) ask.client ask.scopes others =
    ap (λ (x : List ℕ). ask_fields x ask.client ask.scopes others) at.redirect in
    let asked_is = of_fields query url ask.client ask.scopes ask.state others at.valid at.may lawful (sent_say ask.state password choice) (fields ∙ same) in
    let ask_is : ask_at url ask.state (Ok (ask.client, ask.scopes)) ≡ Ok ask =
    ap₂ (λ (r o : List ℕ). Ok (record ask { redirect = r; origin = o })) (sym at.redirect) (sym at.origin) in
    let choice_is : choice_reading query ≡ choice_of (Some choice) (Some password) =
    ap choice_among fields ∙ own_choice ask.redirect ask.client ask.scopes ask.state password choice in
    ap₂ with_choice (asked_is ∙ ask_is) choice_is
