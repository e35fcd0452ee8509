-- Redirects back to the app (RFC 6749, sections 4.2.2 and 4.2.2.1).
use Rattle.std.specs.Prelude.{ℕ, List, [], ◌∷◌, ◌++◌, Option, Some, None, codes}
use Rattle.form_urlencoded.specs.Form.{extend_pairs}
use Rattle.url.specs.Parts.{Parts}
use Rattle.rs_scope.specs.Tokens.{token_text}
use Rattle.rs_grant.specs.declared.outcome.Outcome.{Outcome}
use Rattle.rs_grant.specs.declared.outcome.Outcome.TheVariants.{Token, Word}
use Rattle.rs_grant.specs.Words.{word_text}

-- the fields of a token, or of an error's word
abbrev pub outcome_fields : Outcome → List (List ℕ × List ℕ)
outcome_fields (Token token) = (codes "access_token", token_text token) ∷ (codes "token_type", codes "bearer") ∷ []
outcome_fields (Word word) = (codes "error", word_text word) ∷ []

-- the state, where one was sent
abbrev pub state_fields : Option (List ℕ) → List (List ℕ × List ℕ)
state_fields None = []
state_fields (Some state) = (codes "state", state) ∷ []

abbrev pub redirect_fields : Outcome → Option (List ℕ) → List (List ℕ × List ℕ)
redirect_fields outcome state = outcome_fields outcome ++ state_fields state

-- the redirect address, `#`, and the fields as a form
abbrev pub redirect_text : List ℕ → Outcome → Option (List ℕ) → List ℕ
redirect_text to outcome state = to ++ 35 ∷ extend_pairs [] (redirect_fields outcome state)

-- the address with these fields as its fragment
abbrev pub at_fragment : Parts → List (List ℕ × List ℕ) → Parts
at_fragment url fields = record url { fragment = Some (extend_pairs [] fields) }
