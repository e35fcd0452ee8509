-- What is asked where a query or a form can't be shown to the user.
use Rattle.std.proofs.Common.{◌≡◌, ℕ, List, Result, Ok, Err, IfOk, sym, ap, ◌∙◌}
use Rattle.rs_grant.specs.declared.ask.Ask.{Ask}
use Rattle.rs_grant.specs.declared.choice.Choice.{Choice}
use Rattle.rs_grant.specs.declared.grant_fault.GrantFault.{GrantFault}
use Rattle.rs_grant.specs.declared.grant_fault.GrantFault.TheVariants.{BadRedirect, Word, NoMemory}
use Rattle.rs_grant.specs.Asks.{ReadsAsk}
use Rattle.rs_grant.specs.Consents.{ReadsConsent}
use Rattle.rs_exchange.specs.declared.account.Account.{Account}
use Rattle.rs_exchange.specs.declared.asked.Asked.{Asked}
use Rattle.rs_exchange.specs.Grants.{asked_page, asked_consent, Refuses}

-- what follows of a result's value
if_ok : {A E : Type 0} {P Q : A → Type 0} (r : Result A E) → ((x : A) → P x → Q x) → IfOk r P → IfOk r Q
if_ok (Ok x) all holds = all x holds
if_ok (Err e) all holds = tt

page_refused : (name : List ℕ) (f : GrantFault) (wanted : Result Ask GrantFault) → ReadsAsk (Err f) wanted → (asked : Asked) → Refuses f asked
    → asked ≡ asked_page name wanted
page_refused name BadRedirect wanted is asked refused = refused ∙ ap (asked_page name) (sym is)
page_refused name (Word word redirect state) wanted is asked refused = refused ∙ ap (asked_page name) (sym is)
page_refused name NoMemory wanted is asked refused = absurd refused

form_refused : (account : Account) (user : ℕ) (f : GrantFault) (wanted : Result (Ask × Choice) GrantFault) → ReadsConsent (Err f) wanted
    → (asked : Asked) → Refuses f asked → asked ≡ asked_consent account user wanted
form_refused account user BadRedirect wanted is asked refused = refused ∙ ap (asked_consent account user) (sym is)
form_refused account user (Word word redirect state) wanted is asked refused = refused ∙ ap (asked_consent account user) (sym is)
form_refused account user NoMemory wanted is asked refused = absurd refused

pub pages_refused : (name : List ℕ) (f : GrantFault) (wanted : Result Ask GrantFault) → ReadsAsk (Err f) wanted → {E : Type 0} (r : Result Asked E)
    → IfOk r (Refuses f) → IfOk r (λ asked. asked ≡ asked_page name wanted)
pages_refused name f wanted is r refuses = if_ok r (page_refused name f wanted is) refuses

pub forms_refused : (account : Account) (user : ℕ) (f : GrantFault) (wanted : Result (Ask × Choice) GrantFault) → ReadsConsent (Err f) wanted
    → {E : Type 0} (r : Result Asked E) → IfOk r (Refuses f) → IfOk r (λ asked. asked ≡ asked_consent account user wanted)
forms_refused account user f wanted is r refuses = if_ok r (form_refused account user f wanted is) refuses
