-- The fields of a redirect are read back.
use Rattle.std.proofs.Common.{◌≡◌, ℕ, ◌<◌, nat_lt, true, List, [], ◌∷◌, ◌++◌, Option, Some, None, codes, All, IsAscii, IsUtf8, IfSome, refl, ltb-true}
use Rattle.std.specs.List.{list_all}
use Rattle.std.proofs.lemmas.List.Elements.{All-nil, All-cons, All-append, All-weaker}
use Rattle.std.proofs.lemmas.List.Sums.{AllPass-from_list_all}
use Rattle.std.proofs.lemmas.Str.{IsUtf8-from_ascii}
use Rattle.std.proofs.lemmas.Str.Ascii.{IsAscii-from_all}
use Rattle.form_urlencoded.specs.Form.{append_pair, extend_pairs}
use Rattle.hex.specs.Hex.{lower_digits}
use Rattle.hex.proofs.HexLemmas.{IsAscii-encode_with}
use Rattle.rs_scope.specs.Tokens.{token_text}
use Rattle.rs_form.specs.Fields.{form_fields, IsTextField}
use Rattle.rs_form.proofs.Cited.{form_back}
use Rattle.rs_grant.specs.declared.grant_word.GrantWord.{GrantWord}
use Rattle.rs_grant.specs.declared.grant_word.GrantWord.TheVariants.{InvalidRequest, UnsupportedResponseType, InvalidScope, AccessDenied, ServerError}
use Rattle.rs_grant.specs.declared.outcome.Outcome.{Outcome}
use Rattle.rs_grant.specs.declared.outcome.Outcome.TheVariants.{Token, Word}
use Rattle.rs_grant.specs.Words.{word_text}
use Rattle.rs_grant.specs.Redirects.{outcome_fields, state_fields, redirect_fields}

-- more fields behind some
pub extend-append : (form : List ℕ) (xs ys : List (List ℕ × List ℕ)) → extend_pairs form (xs ++ ys) ≡ extend_pairs (extend_pairs form xs) ys
extend-append form [] ys = refl
extend-append form (x ∷ xs) ys = extend-append (append_pair form x.0 x.1) xs ys

-- ---- the fields are texts

pub ascii : (text : List ℕ) → list_all (λ byte. nat_lt byte 128) text ≡ true → IsAscii text
ascii text low =
    IsAscii-from_all text (All-weaker (λ byte. nat_lt byte 128 ≡ true) (λ byte. byte < 128) (λ byte is. ltb-true byte 128 is) text
    (AllPass-from_list_all (λ byte. nat_lt byte 128) text low))

pub literal : (text : List ℕ) → list_all (λ byte. nat_lt byte 128) text ≡ true → IsUtf8 text
literal text low = IsUtf8-from_ascii text (ascii text low)

token_utf8 : (token : List ℕ) → IsUtf8 (token_text token)
token_utf8 token = IsUtf8-from_ascii (token_text token) (IsAscii-encode_with lower_digits token (ascii lower_digits refl))

word_utf8 : (word : GrantWord) → IsUtf8 (word_text word)
word_utf8 InvalidRequest = literal (codes "invalid_request") refl
word_utf8 UnsupportedResponseType = literal (codes "unsupported_response_type") refl
word_utf8 InvalidScope = literal (codes "invalid_scope") refl
word_utf8 AccessDenied = literal (codes "access_denied") refl
word_utf8 ServerError = literal (codes "server_error") refl

outcome_texts : (outcome : Outcome) → All IsTextField (outcome_fields outcome)
outcome_texts (Token token) =
    All-cons IsTextField (codes "access_token", token_text token) ((codes "token_type", codes "bearer") ∷ [])
    (literal (codes "access_token") refl, token_utf8 token)
    (All-cons IsTextField (codes "token_type", codes "bearer") [] (literal (codes "token_type") refl, literal (codes "bearer") refl)
    (All-nil IsTextField))
outcome_texts (Word word) =
    All-cons IsTextField (codes "error", word_text word) [] (literal (codes "error") refl, word_utf8 word) (All-nil IsTextField)

pub state_texts : (state : Option (List ℕ)) → IfSome state IsUtf8 → All IsTextField (state_fields state)
state_texts None text = All-nil IsTextField
state_texts (Some state) text = All-cons IsTextField (codes "state", state) [] (literal (codes "state") refl, text) (All-nil IsTextField)

pub redirect_back : (outcome : Outcome) (state : Option (List ℕ)) → IfSome state IsUtf8
    → form_fields (extend_pairs [] (redirect_fields outcome state)) ≡ redirect_fields outcome state
redirect_back outcome state text =
    form_back (redirect_fields outcome state) (All-append IsTextField (outcome_fields outcome) (state_fields state) (outcome_texts outcome) (state_texts state text))
