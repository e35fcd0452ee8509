-- What a call answers, from what it read.
use Rattle.std.proofs.Common.{◌≡◌, ℕ, List, Option, Some, Result, Ok, Err, codes, sym, ap, ap₂, ◌∙◌}
use Rattle.url.specs.Parts.{Parts, serialize}
use Rattle.url.specs.Origin.{origin_of, ascii_serialization}
use Rattle.rs_scope.specs.declared.scope.Scope.{Scope}
use Rattle.rs_form.specs.Fields.{form_values, first_value}
use Rattle.rs_grant.specs.declared.ask.Ask.{Ask}
use Rattle.rs_grant.specs.declared.choice.Choice.{Choice}
use Rattle.rs_grant.specs.declared.grant_word.GrantWord.{GrantWord}
use Rattle.rs_grant.specs.declared.grant_fault.GrantFault.{GrantFault}
use Rattle.rs_grant.specs.declared.grant_fault.GrantFault.TheVariants.{BadRedirect, Word, NoMemory}
use Rattle.rs_grant.specs.Asks.{Asked, asked, ask_at, ask_from, ReadsAsk}
use Rattle.rs_grant.specs.Consents.{with_choice, ReadsConsent}

-- what the values of a query's fields ask
abbrev pub asked_of : List ℕ → Asked
asked_of query = asked (form_values (codes "response_type") query) (form_values (codes "client_id") query)
    (form_values (codes "scope") query) (form_values (codes "state") query)

abbrev ask_with : List ℕ → List ℕ → List ℕ × List Scope → Option (List ℕ) → Ask
ask_with redirect origin fields state =
    record { redirect = redirect; origin = origin; client = fields.0; scopes = fields.1; state = state }

-- what is asked with an address
pub ask_is : (url : Parts) (query redirect origin : List ℕ) (fields : List ℕ × List Scope) (state : Option (List ℕ)) → asked_of query ≡ Ok fields
    → state ≡ first_value (form_values (codes "state") query) → redirect ≡ serialize url → origin ≡ ascii_serialization (origin_of url)
    → ask_from (Some url) query ≡ Ok (ask_with redirect origin fields state)
ask_is url query redirect origin fields state is s r o =
    ap₂ (ask_at url) (sym s) is ∙ ap₂ (λ (x y : List ℕ). Ok (ask_with x y fields state)) (sym r) (sym o)

-- the word that refuses it
pub word_is : (url : Parts) (query redirect : List ℕ) (word : GrantWord) (state : Option (List ℕ)) → asked_of query ≡ Err word
    → state ≡ first_value (form_values (codes "state") query) → redirect ≡ serialize url → ask_from (Some url) query ≡ Err (Word word redirect state)
word_is url query redirect word state is s r =
    ap₂ (ask_at url) (sym s) is ∙ ap (λ (x : List ℕ). Err (Word word x state)) (sym r)

-- a consent with what the user chose
pub consent_is : (ask : Ask) (choice wanted : Choice) (read : Result Ask GrantFault) → read ≡ Ok ask → choice ≡ wanted
    → with_choice read wanted ≡ Ok (ask, choice)
consent_is ask choice wanted read is same = ap₂ with_choice is (sym same)

-- what refuses the request refuses the consent
pub refuses : (fault : GrantFault) (read : Result Ask GrantFault) (choice : Choice) → ReadsAsk (Err fault) read → ReadsConsent (Err fault) (with_choice read choice)
refuses BadRedirect read choice is = ap (λ (asked : Result Ask GrantFault). with_choice asked choice) is
refuses (Word word redirect state) read choice is = ap (λ (asked : Result Ask GrantFault). with_choice asked choice) is
refuses NoMemory read choice is = tt
