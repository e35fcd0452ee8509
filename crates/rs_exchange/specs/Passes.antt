-- What the Authorization fields of a request show of a token (RFC 6750, section 2.1).
use Rattle.std.specs.Prelude.{ℕ, not, ◌==◌, List, [], ◌∷◌, take, drop, Option, Some, None, position, codes, if◌then◌else◌}
use Rattle.std.specs.Option.{option_map_or}
use Rattle.rs_scope.specs.Tokens.{token_reading}
use Rattle.rs_rules.specs.declared.pass.Pass.{Pass}
use Rattle.rs_rules.specs.declared.pass.Pass.TheVariants.{Missing, Strange, Known}
use Rattle.rs_request.specs.Names.{same_name}

-- the token, where there is one
abbrev pub pass_of_token : Option (List ℕ) → Pass
pass_of_token None = Strange
pass_of_token (Some token) = Known token

-- what follows the spaces at the front
abbrev pub after_spaces : List ℕ → List ℕ
after_spaces text = option_map_or (λ at. drop at text) (position (λ byte. not (byte == 32)) text) []

-- what the text behind the scheme and its spaces shows
abbrev pub pass_of_text : List ℕ → Pass
pass_of_text text = pass_of_token (token_reading text)

-- what a scheme, and this text behind it, shows; the scheme `Bearer` has no case (RFC 9110, section 11.1)
abbrev pub pass_of_scheme : List ℕ → List ℕ → Pass
pass_of_scheme scheme text = if same_name scheme (codes "bearer") then pass_of_text (after_spaces text) else Missing

-- what one field shows: the scheme ends at the first space
abbrev pub pass_of_value : List ℕ → Pass
pass_of_value value =
    option_map_or (λ space. pass_of_scheme (take space value) (drop space value)) (position (λ byte. byte == 32) value)
    (pass_of_scheme value [])

-- what fields with these values show: several show no token of ours
abbrev pub pass_of : List (List ℕ) → Pass
pass_of [] = Missing
pass_of (value ∷ []) = pass_of_value value
pass_of (value ∷ other ∷ values) = Strange
