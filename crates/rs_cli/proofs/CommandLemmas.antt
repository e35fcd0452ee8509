-- What words in a form are.
use Rattle.std.proofs.Common.{◌≡◌, ℕ, Bool, true, false, List, [], ◌∷◌, ◌++◌, length, codes, is_some, Some, Ok, refl, sym, ap, ◌∙◌, arith}
use Rattle.std.proofs.lemmas.Bool.{and_parts}
use Rattle.std.proofs.lemmas.Slice.Eq.{bytes_eq-Decides}
use Rattle.rs_path.specs.Kinds.{is_kind}
use Rattle.rs_path.specs.Paths.{Path}
use Rattle.rs_path.specs.Users.{is_user}
use Rattle.rs_talk.specs.Bearers.{is_bearer}
use Rattle.rs_talk.specs.Roots.{Root, root_reading}
use Rattle.rs_scope.specs.declared.scope.Scope.{Scope}
use Rattle.rs_scope.specs.ScopeReadings.{scopes_reading}
use Rattle.rs_scope.specs.Tokens.{token_reading}
use Rattle.rs_cli.specs.declared.forms.Form.TheVariants.{PipeAt, Connect, Put}
use Rattle.rs_cli.specs.declared.forms.Place.TheVariants.{User, Token, Scopes, Number, Origin, Any, Secret, Root as RootPlace, Bearer, Document, Kind}
use Rattle.rs_cli.specs.Forms.{literally, takes, tests_of, path_spelled}
use Rattle.rs_cli.specs.Numbers.{number_spelled}
use Rattle.rs_cli.specs.Scans.{fits}
use Rattle.rs_config.specs.Secrets.{secret_reading}
use Rattle.rs_cli.specs.Commands.{Setting, full_setting, IsPipe, IsConnect, IsPut, word_at}

-- each place takes its word
pub fits_at : (before : List (List ℕ → Bool)) (test : List ℕ → Bool) (behind : List (List ℕ → Bool)) (words : List (List ℕ))
    → fits (before ++ test ∷ behind) words ≡ true → test (word_at words (length before)) ≡ true
fits_at [] test behind [] is = absurd cc
fits_at [] test behind (word ∷ words) is = (and_parts (test word) (fits behind words) is).0
fits_at (first ∷ before) test behind [] is = absurd cc
fits_at (first ∷ before) test behind (word ∷ words) is =
    fits_at before test behind words (and_parts (first word) (fits (before ++ test ∷ behind) words) is).1

-- ---- the words of `pipe` with all that it may be given

fits_length : (tests : List (List ℕ → Bool)) (words : List (List ℕ)) → fits tests words ≡ true → length words ≡ length tests
fits_length [] [] is = refl
fits_length [] (word ∷ words) is = absurd cc
fits_length (test ∷ tests) [] is = absurd cc
fits_length (test ∷ tests) (word ∷ words) is =
    let rest = fits_length tests words (and_parts (test word) (fits tests words) is).1 in omega (arith, rest)

eight_words : (words : List (List ℕ)) → length words ≡ 8
    → words ≡ word_at words 0 ∷ word_at words 1 ∷ word_at words 2 ∷ word_at words 3 ∷ word_at words 4 ∷ word_at words 5 ∷ word_at words 6 ∷ word_at words 7 ∷ []
eight_words [] is = absurd (omega (arith, is))
eight_words (a ∷ []) is = absurd (omega (arith, is))
eight_words (a ∷ b ∷ []) is = absurd (omega (arith, is))
eight_words (a ∷ b ∷ c ∷ []) is = absurd (omega (arith, is))
eight_words (a ∷ b ∷ c ∷ d ∷ []) is = absurd (omega (arith, is))
eight_words (a ∷ b ∷ c ∷ d ∷ e ∷ []) is = absurd (omega (arith, is))
eight_words (a ∷ b ∷ c ∷ d ∷ e ∷ f ∷ []) is = absurd (omega (arith, is))
eight_words (a ∷ b ∷ c ∷ d ∷ e ∷ f ∷ g ∷ []) is = absurd (omega (arith, is))
eight_words (a ∷ b ∷ c ∷ d ∷ e ∷ f ∷ g ∷ h ∷ []) is = refl
eight_words (a ∷ b ∷ c ∷ d ∷ e ∷ f ∷ g ∷ h ∷ k ∷ words) is = absurd (omega (arith, is))

pub user_at : (words : List (List ℕ)) → fits (tests_of PipeAt) words ≡ true → is_user (word_at words 1) ≡ true
user_at words is = fits_at (literally (codes "pipe") ∷ []) (takes User)
    (takes Token ∷ takes Scopes ∷ takes Number ∷ takes Origin ∷ takes Any ∷ takes Secret ∷ []) words is

pub token_at : (words : List (List ℕ)) → fits (tests_of PipeAt) words ≡ true → is_some (token_reading (word_at words 2)) ≡ true
token_at words is = fits_at (literally (codes "pipe") ∷ takes User ∷ []) (takes Token)
    (takes Scopes ∷ takes Number ∷ takes Origin ∷ takes Any ∷ takes Secret ∷ []) words is

pub quota_at : (words : List (List ℕ)) → fits (tests_of PipeAt) words ≡ true → is_some (number_spelled (word_at words 4)) ≡ true
quota_at words is = fits_at (literally (codes "pipe") ∷ takes User ∷ takes Token ∷ takes Scopes ∷ []) (takes Number)
    (takes Origin ∷ takes Any ∷ takes Secret ∷ []) words is

pub secret_at : (words : List (List ℕ)) → fits (tests_of PipeAt) words ≡ true → is_some (secret_reading (word_at words 7)) ≡ true
secret_at words is =
    fits_at (literally (codes "pipe") ∷ takes User ∷ takes Token ∷ takes Scopes ∷ takes Number ∷ takes Origin ∷ takes Any ∷ []) (takes Secret) [] words is

-- what was read of such words is what they ask for
pub is_pipe_at : (words : List (List ℕ)) (user token : List ℕ) (scopes : List Scope) (setting : Setting) (quota : ℕ) (secret : List ℕ)
    → fits (tests_of PipeAt) words ≡ true → user ≡ word_at words 1 → token_reading (word_at words 2) ≡ Some token
    → scopes_reading (word_at words 3) ≡ Ok scopes → number_spelled (word_at words 4) ≡ Some quota → secret_reading (word_at words 7) ≡ Some secret
    → setting ≡ record { quota = quota; base = word_at words 5; salt = word_at words 6; secret = Some secret } → IsPipe user token scopes setting words
is_pipe_at words user token scopes setting quota secret is same_user same_token same_scopes same_quota same_secret same =
    let eight = eight_words words (fits_length (tests_of PipeAt) words is) in
    let name : word_at words 0 ≡ codes "pipe" = (bytes_eq-Decides (word_at words 0) (codes "pipe")).0
    (fits_at [] (literally (codes "pipe")) (takes User ∷ takes Token ∷ takes Scopes ∷ takes Number ∷ takes Origin ∷ takes Any ∷ takes Secret ∷ []) words is) in
    record {
      token_word = word_at words 2;
      scopes_word = word_at words 3;
      rest = word_at words 4 ∷ word_at words 5 ∷ word_at words 6 ∷ word_at words 7 ∷ [];
      are = eight ∙ (λ i. name i ∷ sym same_user i ∷ word_at words 2 ∷ word_at words 3 ∷ word_at words 4 ∷ word_at words 5 ∷ word_at words 6 ∷ word_at words 7 ∷ []);
      token_is = same_token;
      scopes_are = same_scopes;
      setting_is = (λ i. full_setting (same_quota i) (word_at words 5) (word_at words 6) (same_secret i)) ∙ ap Some (sym same);
    }

-- ---- the words of `connect` and `put`

four_words : (words : List (List ℕ)) → length words ≡ 4 → words ≡ word_at words 0 ∷ word_at words 1 ∷ word_at words 2 ∷ word_at words 3 ∷ []
four_words [] is = absurd (omega (arith, is))
four_words (a ∷ []) is = absurd (omega (arith, is))
four_words (a ∷ b ∷ []) is = absurd (omega (arith, is))
four_words (a ∷ b ∷ c ∷ []) is = absurd (omega (arith, is))
four_words (a ∷ b ∷ c ∷ d ∷ []) is = refl
four_words (a ∷ b ∷ c ∷ d ∷ e ∷ words) is = absurd (omega (arith, is))

three_words : (words : List (List ℕ)) → length words ≡ 3 → words ≡ word_at words 0 ∷ word_at words 1 ∷ word_at words 2 ∷ []
three_words [] is = absurd (omega (arith, is))
three_words (a ∷ []) is = absurd (omega (arith, is))
three_words (a ∷ b ∷ []) is = absurd (omega (arith, is))
three_words (a ∷ b ∷ c ∷ []) is = refl
three_words (a ∷ b ∷ c ∷ d ∷ words) is = absurd (omega (arith, is))

pub is_connect_at : (words : List (List ℕ)) (root : Root) (token : List ℕ) (scopes : List Scope) → fits (tests_of Connect) words ≡ true
    → root_reading (word_at words 1) ≡ Ok root → token ≡ word_at words 2 → is_bearer token ≡ true → scopes_reading (word_at words 3) ≡ Ok scopes
    → IsConnect root token scopes words
is_connect_at words root token scopes is same_root same_token bearer same_scopes =
    let four = four_words words (fits_length (tests_of Connect) words is) in
    let name : word_at words 0 ≡ codes "connect" = (bytes_eq-Decides (word_at words 0) (codes "connect")).0
    (fits_at [] (literally (codes "connect")) (takes RootPlace ∷ takes Bearer ∷ takes Scopes ∷ []) words is) in
    record {
      root_word = word_at words 1;
      scopes_word = word_at words 3;
      are = four ∙ (λ i. name i ∷ word_at words 1 ∷ sym same_token i ∷ word_at words 3 ∷ []);
      root_is = same_root;
      token_is = bearer;
      scopes_are = same_scopes;
    }

pub is_put_at : (words : List (List ℕ)) (path : Path) (kind : List ℕ) → fits (tests_of Put) words ≡ true
    → path_spelled (word_at words 1) ≡ Some path → path.folder ≡ false → kind ≡ word_at words 2 → is_kind kind ≡ true → IsPut path kind words
is_put_at words path kind is same_path document same_kind test =
    let three = three_words words (fits_length (tests_of Put) words is) in
    let name : word_at words 0 ≡ codes "put" = (bytes_eq-Decides (word_at words 0) (codes "put")).0
    (fits_at [] (literally (codes "put")) (takes Document ∷ takes Kind ∷ []) words is) in
    record {
      path_word = word_at words 1;
      are = three ∙ (λ i. name i ∷ word_at words 1 ∷ sym same_kind i ∷ []);
      path_is = same_path;
      document = document;
      kind_is = test;
    }
