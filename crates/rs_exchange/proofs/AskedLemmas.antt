-- What a message asks, by what its fields are.
use Rattle.std.proofs.Common.{◌≡◌, ℕ, ◌<◌, ◌≤◌, ◌==◌, Bool, true, false, cond, List, [], length, take, drop, Option, Some, None, position, refl, subst, codes, slice_get, arith, Result, Ok, Err}
use Rattle.std.specs.Prelude.{⊤}
use Rattle.std.specs.Option.{option_map_or}
use Rattle.std.specs.Result.{result_ok}
use Rattle.std.specs.Str.{bytes_eq}
use Rattle.std.proofs.lemmas.Bool.Decides.{nat_tests}
use Rattle.std.proofs.lemmas.List.Quantifiers.{position-Some}
use Rattle.rs_path.specs.Paths.{Path}
use Rattle.rs_path.specs.Limits.{max_body}
use Rattle.rs_path.specs.Readings.{target_reading}
use Rattle.rs_scope.specs.declared.method.Method.{Method}
use Rattle.rs_scope.specs.declared.method.Method.TheVariants.{Get, Head, Put, Delete}
use Rattle.rs_rules.specs.declared.cond.Cond.{Cond}
use Rattle.rs_rules.specs.declared.pass.Pass.{Pass}
use Rattle.rs_rules.specs.declared.request.Request.{Request}
use Rattle.rs_rules.specs.declared.request.Request.TheVariants.{Store}
use Rattle.rs_finger.specs.declared.finger_fault.FingerFault.{FingerFault}
use Rattle.rs_finger.specs.declared.finger_fault.FingerFault.TheVariants as finger
use Rattle.rs_finger.specs.Answers.{finger_answer}
use Rattle.rs_grant.specs.declared.ask.Ask.{Ask}
use Rattle.rs_grant.specs.declared.choice.Choice.{Choice}
use Rattle.rs_grant.specs.declared.choice.Choice.TheVariants as choice
use Rattle.rs_grant.specs.declared.grant_fault.GrantFault.{GrantFault}
use Rattle.rs_grant.specs.declared.grant_word.GrantWord.TheVariants.{InvalidRequest, AccessDenied}
use Rattle.rs_grant.specs.declared.outcome.Outcome.TheVariants.{Word}
use Rattle.rs_grant.specs.Asks.{ask_reading}
use Rattle.rs_grant.specs.Consents.{consent_reading}
use Rattle.rs_grant.specs.Pages.{page_text}
use Rattle.rs_rules.specs.Requests.{is_short_for}
use Rattle.rs_request.specs.declared.field.Field.{Field}
use Rattle.rs_request.specs.declared.message.RequestMessage.{RequestMessage}
use Rattle.rs_exchange.specs.declared.account.Account.{Account}
use Rattle.rs_exchange.specs.declared.account.Config.{Config}
use Rattle.rs_exchange.specs.declared.answer.Answer.{Answer}
use Rattle.rs_exchange.specs.declared.answer.Answer.TheVariants.{Preflight, Refused, Made}
use Rattle.rs_exchange.specs.declared.answer.Sheet.TheVariants.{Description, ConsentPage, DeniedPage}
use Rattle.rs_exchange.specs.declared.asked.Asked.{Asked}
use Rattle.rs_exchange.specs.declared.asked.Asked.TheVariants.{Desk, Now, Consent}
use Rattle.rs_exchange.specs.declared.refusal.Methods.TheVariants as methods
use Rattle.rs_exchange.specs.declared.refusal.Refusal.TheVariants.{NotFound, NotAllowed, BadPath, BadCondition, BadKind, PartOnly, BadResource}
use Rattle.rs_exchange.specs.declared.verb.Verb.{Verb}
use Rattle.rs_exchange.specs.declared.verb.Verb.TheVariants.{Data, Options, Post, Other}
use Rattle.rs_exchange.specs.Accounts.{is_of, account_of, names_of}
use Rattle.rs_exchange.specs.Asking.{AsksOf, AsksShort, IsStore, IsAllowed}
use Rattle.rs_exchange.specs.Conditions.{cond_of, are_conditions}
use Rattle.rs_exchange.specs.ContentTypes.{kind_of, is_part}
use Rattle.rs_exchange.specs.Discoveries.{discovered, asked_account, asked_discovery}
use Rattle.rs_exchange.specs.Fields.{values_of}
use Rattle.rs_exchange.specs.Grants.{fault_answer, sent_back, may_enter, asked_page, asked_allowed, asked_by_choice, asked_consent, asked_by_method}
use Rattle.rs_exchange.specs.Passes.{pass_of}
use Rattle.rs_exchange.specs.Refusals.{refused}
use Rattle.rs_exchange.specs.Requests.{asked_by, asked_path, asked_options, asked_storage, asked_server, asked_there, asked_of}
use Rattle.rs_exchange.specs.Targets.{Target, Server, Storage, Discovery, Grant, Nothing, storage_target, grant_target, storage_of, grant_of, below_oauth, after_prefix, target_of, path_part, query_part, verb_of}

-- nothing is there that is not something
pub none_left : {X : Type 0} (o : Option X) → ((x : X) → ¬ (o ≡ Some x)) → o ≡ None
none_left None other = refl
none_left (Some x) other = elim (other x refl) [ ]

-- ---- who is asked

account_low : (accounts : List Account) (name : List ℕ) (user : ℕ) → account_of accounts name ≡ Some user → user < length accounts
account_low accounts name user is =
    let any : Account = record { name = []; salt = []; secret = None } in (position-Some (is_of name) accounts user any is).0

-- the user of a target is one of so many
abbrev IsLowTarget : ℕ → Target → Type 0
IsLowTarget n Server = ⊤
IsLowTarget n (Storage user path) = user < n
IsLowTarget n (Discovery query) = ⊤
IsLowTarget n (Grant user query) = user < n
IsLowTarget n Nothing = ⊤

target_low : (accounts : List Account) (text query : List ℕ) → IsLowTarget (length accounts) (target_of accounts text query)
unfolding target_of
target_low accounts text query = by_tests (bytes_eq text (codes "*")) (bytes_eq text (codes "/.well-known/webfinger")) (after_prefix (codes "/storage/") text)
  where
    by_user : (path : List ℕ) (o : Option ℕ) → ((user : ℕ) → o ≡ Some user → user < length accounts) → IsLowTarget (length accounts) (storage_target o path)
    by_user path None low = tt
    by_user path (Some user) low = low user refl

    by_grant : (o : Option ℕ) → ((user : ℕ) → o ≡ Some user → user < length accounts) → IsLowTarget (length accounts) (grant_target query o)
    by_grant None low = tt
    by_grant (Some user) low = low user refl

    by_slash : (text : List ℕ) (o : Option ℕ) → IsLowTarget (length accounts) (option_map_or (λ slash. storage_target (account_of accounts (take slash text)) (drop slash text)) o Nothing)
    by_slash text None = tt
    by_slash text (Some slash) = by_user (drop slash text) (account_of accounts (take slash text)) (account_low accounts (take slash text))

    by_oauth : (o : Option (List ℕ)) → IsLowTarget (length accounts) (option_map_or (λ name. grant_of accounts name query) o Nothing)
    by_oauth None = tt
    by_oauth (Some name) = by_grant (account_of accounts name) (account_low accounts name)

    by_storage : (o : Option (List ℕ)) → IsLowTarget (length accounts) (option_map_or (storage_of accounts) o (below_oauth accounts text query))
    by_storage None = by_oauth (after_prefix (codes "/oauth/") text)
    by_storage (Some rest) = by_slash rest (position (λ byte. byte == 47) rest)

    by_tests : (a b : Bool) (o : Option (List ℕ))
        → IsLowTarget (length accounts) (cond a Server (cond b (Discovery query) (option_map_or (storage_of accounts) o (below_oauth accounts text query))))
    by_tests true b o = tt
    by_tests false true o = tt
    by_tests false false o = by_storage o

-- ---- what holds of a call holds of what a message asks

module _ (P : Asked → Type 0) (fields : List Field) (body : List ℕ) (now : (answer : Answer) → P (Now answer)) (user : ℕ)
    (call : (method : Method) (path : Path) (p : Pass) (x y : Cond) (kind : List ℕ)
    → P (Desk user (Store (record { method = method; path = path; pass = p; if_match = x; if_none = y; kind = kind; body = body })))) where
  by_parts : (method : Method) (path : Path) (x y : Option Cond) (z : Option (List ℕ)) (part : Bool) → P (asked_by fields body user method path x y z part)
  by_parts method path None y z part = now (Refused BadCondition)
  by_parts method path (Some x) None z part = now (Refused BadCondition)
  by_parts method path (Some x) (Some y) None part = now (Refused BadKind)
  by_parts method path (Some x) (Some y) (Some z) true = now (Refused PartOnly)
  by_parts method path (Some x) (Some y) (Some z) false = call method path (pass_of (values_of (codes "authorization") fields)) x y z

  by_path : (method : Method) (o : Option Path) → P (asked_path fields body user method o)
  by_path method None = now (Refused BadPath)
  by_path method (Some path) = by_parts method path (cond_of (values_of (codes "if-match") fields)) (cond_of (values_of (codes "if-none-match") fields))
      (kind_of method (values_of (codes "content-type") fields)) (is_part method (values_of (codes "content-range") fields))

  by_options : (o : Option Path) → P (asked_options o)
  by_options None = now (Refused BadPath)
  by_options (Some path) = now Preflight

  by_verb : (o : Option Path) (verb : Verb) → P (asked_storage fields body user o verb)
  by_verb o (Data method) = by_path method o
  by_verb o Options = by_options o
  by_verb o Post = now (Refused (NotAllowed methods.Storage))
  by_verb o Other = now (Refused (NotAllowed methods.Storage))

-- the server as a whole is asked nothing of a desk
by_server : (P : Asked → Type 0) → ((answer : Answer) → P (Now answer)) → (verb : Verb) → P (asked_server verb)
by_server P now (Data method) = now (Refused NotFound)
by_server P now Options = now Preflight
by_server P now Post = now (Refused NotFound)
by_server P now Other = now (Refused NotFound)

-- nor is discovery
module _ (P : Asked → Type 0) (now : (answer : Answer) → P (Now answer)) where
  by_found : (r : Result (List ℕ) FingerFault) → P (discovered r)
  by_found (Ok text) = now (Made Description text)
  by_found (Err finger.NoResource) = now (Refused BadResource)
  by_found (Err finger.BadResource) = now (Refused BadResource)
  by_found (Err finger.Unknown) = now (Refused NotFound)
  by_found (Err finger.NoLink) = now (Refused NotFound)
  by_found (Err finger.NoMemory) = now (Refused NotFound)

  -- nor where a condition is none
  by_conditions : (b : Bool) (asked : Asked) → P asked → P (cond b asked (refused BadCondition))
  by_conditions true asked holds = holds
  by_conditions false asked holds = now (Refused BadCondition)

  by_discovery : (config : Config) (fields : List Field) (verb : Verb) (query : List ℕ) → P (asked_discovery config fields verb query)
  by_discovery config fields (Data Get) query =
      by_conditions (are_conditions fields) (asked_account config query) (by_found (finger_answer config.base config.host (names_of config.accounts) query))
  by_discovery config fields (Data Head) query =
      by_conditions (are_conditions fields) (asked_account config query) (by_found (finger_answer config.base config.host (names_of config.accounts) query))
  by_discovery config fields (Data Put) query = now (Refused (NotAllowed methods.Discovery))
  by_discovery config fields (Data Delete) query = now (Refused (NotAllowed methods.Discovery))
  by_discovery config fields Options query = now Preflight
  by_discovery config fields Post query = now (Refused (NotAllowed methods.Discovery))
  by_discovery config fields Other query = now (Refused (NotAllowed methods.Discovery))

-- where access is granted, a consent or nothing is asked
module _ (P : Asked → Type 0) (now : (answer : Answer) → P (Now answer)) (user : ℕ) (consent : (ask : Ask) → P (Consent user ask)) where
  by_page : (name : List ℕ) (r : Result Ask GrantFault) → P (asked_page name r)
  by_page name (Ok ask) = now (Made ConsentPage (page_text name ask))
  by_page name (Err fault) = now (fault_answer fault)

  by_password : (account : Account) (ask : Ask) (fits : Bool) → P (asked_allowed account user ask fits)
  by_password account ask true = consent ask
  by_password account ask false = now (Made DeniedPage (page_text account.name ask))

  by_choice : (account : Account) (ask : Ask) (chosen : Choice) → P (asked_by_choice account user ask chosen)
  by_choice account ask choice.Deny = now (sent_back ask (Word AccessDenied))
  by_choice account ask choice.Other = now (sent_back ask (Word InvalidRequest))
  by_choice account ask (choice.Allow password) = by_password account ask (may_enter account password)

  by_form : (account : Account) (r : Result (Ask × Choice) GrantFault) → P (asked_consent account user r)
  by_form account (Ok consent) = by_choice account consent.0 consent.1
  by_form account (Err fault) = now (fault_answer fault)

  by_method : (account : Account) (fields : List Field) (verb : Verb) (query body : List ℕ) → P (asked_by_method account user fields verb query body)
  by_method account fields (Data Get) query body =
      by_conditions P now (are_conditions fields) (asked_page account.name (ask_reading query)) (by_page account.name (ask_reading query))
  by_method account fields (Data Head) query body =
      by_conditions P now (are_conditions fields) (asked_page account.name (ask_reading query)) (by_page account.name (ask_reading query))
  by_method account fields (Data Put) query body = now (Refused (NotAllowed methods.Grant))
  by_method account fields (Data Delete) query body = now (Refused (NotAllowed methods.Grant))
  by_method account fields Options query body = now (Refused (NotAllowed methods.Grant))
  by_method account fields Post query body =
      by_conditions P now (are_conditions fields) (asked_consent account user (consent_reading body)) (by_form account (consent_reading body))
  by_method account fields Other query body = now (Refused (NotAllowed methods.Grant))

  by_account : (fields : List Field) (verb : Verb) (query body : List ℕ) (o : Option Account)
      → P (option_map_or (λ (account : Account). asked_by_method account user fields verb query body) o (refused NotFound))
  by_account fields verb query body None = now (Refused NotFound)
  by_account fields verb query body (Some account) = by_method account fields verb query body

there_of : (n : ℕ) (config : Config) (fields : List Field) (body : List ℕ) (verb : Verb) (target : Target) → IsLowTarget n target
    → AsksOf (λ user. user < n) (asked_there config fields body verb target)
there_of n config fields body verb Server low = by_server (AsksOf (λ user. user < n)) (λ answer. tt) verb
there_of n config fields body verb (Storage user text) low =
    by_verb (AsksOf (λ user. user < n)) fields body (λ answer. tt) user (λ method path p x y kind. low) (result_ok (target_reading text)) verb
there_of n config fields body verb (Discovery query) low = by_discovery (AsksOf (λ user. user < n)) (λ answer. tt) config fields verb query
there_of n config fields body verb (Grant user query) low =
    by_account (AsksOf (λ user. user < n)) (λ answer. tt) user (λ ask. low) fields verb query body (slice_get config.accounts user)
there_of n config fields body verb Nothing low = tt

-- the user that a message asks has an account
pub asked_of_user : (config : Config) (m : RequestMessage) → AsksOf (λ user. user < length config.accounts) (asked_of config m)
asked_of_user config m =
    there_of (length config.accounts) config m.fields m.body (verb_of m.method) (target_of config.accounts (path_part m.target) (query_part m.target))
    (target_low config.accounts (path_part m.target) (query_part m.target))

is_short_call : (method : Method) (body : List ℕ) → length body ≤ max_body → is_short_for method body ≡ true
is_short_call Get body short = refl
is_short_call Head body short = refl
is_short_call Put body short = grind (arith, nat_tests, short)
is_short_call Delete body short = refl

there_short : (config : Config) (fields : List Field) (body : List ℕ) (verb : Verb) (target : Target) → length body ≤ max_body
    → AsksShort (asked_there config fields body verb target)
there_short config fields body verb Server short = by_server AsksShort (λ answer. tt) verb
there_short config fields body verb (Storage user text) short =
    by_verb AsksShort fields body (λ answer. tt) user (λ method path p x y kind. is_short_call method body short) (result_ok (target_reading text)) verb
there_short config fields body verb (Discovery query) short = by_discovery AsksShort (λ answer. tt) config fields verb query
there_short config fields body verb (Grant user query) short =
    by_account AsksShort (λ answer. tt) user (λ ask. tt) fields verb query body (slice_get config.accounts user)
there_short config fields body verb Nothing short = tt

-- the body that it brings is as short as the message's
pub asked_short : (config : Config) (m : RequestMessage) → length m.body ≤ max_body → AsksShort (asked_of config m)
asked_short config m short =
    there_short config m.fields m.body (verb_of m.method) (target_of config.accounts (path_part m.target) (query_part m.target)) short

-- ---- which messages ask for what

-- a desk is asked of documents and folders alone
abbrev AsksStores : Asked → Type 0
AsksStores (Desk user r) = IsStore r
AsksStores (Now answer) = ⊤
AsksStores (Consent user ask) = ⊤

there_stores : (config : Config) (fields : List Field) (body : List ℕ) (verb : Verb) (target : Target) → AsksStores (asked_there config fields body verb target)
there_stores config fields body verb Server = by_server AsksStores (λ answer. tt) verb
there_stores config fields body verb (Storage user text) =
    by_verb AsksStores fields body (λ answer. tt) user (λ method path p x y kind. (_, refl)) (result_ok (target_reading text)) verb
there_stores config fields body verb (Discovery query) = by_discovery AsksStores (λ answer. tt) config fields verb query
there_stores config fields body verb (Grant user query) =
    by_account AsksStores (λ answer. tt) user (λ ask. tt) fields verb query body (slice_get config.accounts user)
there_stores config fields body verb Nothing = tt

pub asked_store : (config : Config) (m : RequestMessage) (user : ℕ) (r : Request) → asked_of config m ≡ Desk user r → IsStore r
asked_store config m user r is = subst AsksStores is
    (there_stores config m.fields m.body (verb_of m.method) (target_of config.accounts (path_part m.target) (query_part m.target)))

-- what a message that asks for a grant is, by how its verb and its target were read
abbrev AsksRightly : Config → Verb → Target → List ℕ → Asked → Type 0
AsksRightly config verb target body (Desk user r) = ⊤
AsksRightly config verb target body (Now answer) = ⊤
AsksRightly config verb target body (Consent user ask) = IsAllowed config verb target body user ask

module _ (config : Config) (user : ℕ) (query body : List ℕ) (account : Account) (there : slice_get config.accounts user ≡ Some account) where
  rightly_password : (ask : Ask) (password : Option (List ℕ)) → consent_reading body ≡ Ok (ask, choice.Allow password) → (fits : Bool) → may_enter account password ≡ fits
      → AsksRightly config Post (Grant user query) body (asked_allowed account user ask fits)
  rightly_password ask None read true fits = absurd cc
  rightly_password ask (Some password) read true fits = record {
    verb = refl;
    query = query;
    target = refl;
    account = account;
    there = there;
    password = password;
    read = read;
    fits = fits;
  }
  rightly_password ask password read false fits = tt

  rightly_choice : (ask : Ask) (chosen : Choice) → consent_reading body ≡ Ok (ask, chosen)
      → AsksRightly config Post (Grant user query) body (asked_by_choice account user ask chosen)
  rightly_choice ask choice.Deny read = tt
  rightly_choice ask choice.Other read = tt
  rightly_choice ask (choice.Allow password) read = rightly_password ask password read (may_enter account password) refl

  rightly_form : (r : Result (Ask × Choice) GrantFault) → consent_reading body ≡ r
      → AsksRightly config Post (Grant user query) body (asked_consent account user r)
  rightly_form (Ok consent) read = rightly_choice consent.0 consent.1 read
  rightly_form (Err fault) read = tt

  rightly_page : (verb : Verb) (name : List ℕ) (r : Result Ask GrantFault) → AsksRightly config verb (Grant user query) body (asked_page name r)
  rightly_page verb name (Ok ask) = tt
  rightly_page verb name (Err fault) = tt

  rightly_conditions : (verb : Verb) (b : Bool) (asked : Asked) → AsksRightly config verb (Grant user query) body asked
      → AsksRightly config verb (Grant user query) body (cond b asked (refused BadCondition))
  rightly_conditions verb true asked holds = holds
  rightly_conditions verb false asked holds = tt

  rightly_method : (fields : List Field) (verb : Verb) → AsksRightly config verb (Grant user query) body (asked_by_method account user fields verb query body)
  rightly_method fields (Data Get) = rightly_conditions (Data Get) (are_conditions fields) (asked_page account.name (ask_reading query)) (rightly_page (Data Get) account.name (ask_reading query))
  rightly_method fields (Data Head) = rightly_conditions (Data Head) (are_conditions fields) (asked_page account.name (ask_reading query)) (rightly_page (Data Head) account.name (ask_reading query))
  rightly_method fields (Data Put) = tt
  rightly_method fields (Data Delete) = tt
  rightly_method fields Options = tt
  rightly_method fields Post = rightly_conditions Post (are_conditions fields) (asked_consent account user (consent_reading body)) (rightly_form (consent_reading body) refl)
  rightly_method fields Other = tt

rightly_there : (config : Config) (fields : List Field) (body : List ℕ) (verb : Verb) (target : Target)
    → AsksRightly config verb target body (asked_there config fields body verb target)
rightly_there config fields body verb Server = by_server (AsksRightly config verb Server body) (λ answer. tt) verb
rightly_there config fields body verb (Storage user text) =
    by_verb (AsksRightly config verb (Storage user text) body) fields body (λ answer. tt) user (λ method path p x y kind. tt) (result_ok (target_reading text)) verb
rightly_there config fields body verb (Discovery query) = by_discovery (AsksRightly config verb (Discovery query) body) (λ answer. tt) config fields verb query
rightly_there config fields body verb (Grant user query) = by_there (slice_get config.accounts user) refl
  where
    by_there : (o : Option Account) → slice_get config.accounts user ≡ o
        → AsksRightly config verb (Grant user query) body (option_map_or (λ (account : Account). asked_by_method account user fields verb query body) o (refused NotFound))
    by_there None there = tt
    by_there (Some account) there = rightly_method config user query body account there fields verb
rightly_there config fields body verb Nothing = tt

pub asked_allowed_only : (config : Config) (m : RequestMessage) (user : ℕ) (ask : Ask) → asked_of config m ≡ Consent user ask
    → IsAllowed config (verb_of m.method) (target_of config.accounts (path_part m.target) (query_part m.target)) m.body user ask
asked_allowed_only config m user ask is =
    let verb = verb_of m.method in
    let target = target_of config.accounts (path_part m.target) (query_part m.target) in
    subst (AsksRightly config verb target m.body) is (rightly_there config m.fields m.body verb target)
