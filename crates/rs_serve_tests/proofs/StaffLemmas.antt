-- Posts and keepers that fit the file as it was read fit it however it is read.
use Rattle.std.proofs.Common.{◌≡◌, ◌∙◌, ◌<◌, ◌≤◌, ℕ, List, Ok, length, nat_eq, true, sym, ap, subst, arith}
use Rattle.std.proofs.lemmas.Bool.Decides.{nat_tests}
use Rattle.rs_config.specs.declared.serve_config.ServeConfig.{ServeConfig}
use Rattle.rs_config.specs.ConfigReadings.{ReadsConfig}
use Rattle.rs_serve.specs.declared.post.Post.{Post}
use Rattle.rs_serve_cli.specs.ServeRuns.{IsStaffed, IsStaffedFor}

same : (a b : ℕ) → nat_eq a b ≡ true → b ≡ a
same a b is = grind (arith, nat_tests, is)

pub fits_always : (text : List ℕ) (config : ServeConfig) (count keepers posts : ℕ) → ReadsConfig text (Ok config) → count ≡ length config.rooms.items
    → ((text : List ℕ) (config : ServeConfig) → ReadsConfig text (Ok config) → length config.rooms.items ≡ length config.front.accounts)
    → ((text : List ℕ) (config other : ServeConfig) → ReadsConfig text (Ok config) → ReadsConfig text (Ok other) → other.front ≡ config.front)
    → nat_eq count keepers ≡ true → 0 < posts → posts ≤ 64
    → (other : ServeConfig) → ReadsConfig text (Ok other) → (keepers ≡ length other.front.accounts) × (0 < posts) × (posts ≤ 64)
fits_always text config count keepers posts reads count_is rooms one is some few = λ other there.
    (same count keepers is ∙ count_is ∙ rooms text config reads ∙ ap (λ c. length c.accounts) (sym (one text config other reads there)), some, few)

staffed_for : {N E K : Type 0} (posts : List (Post N E)) (keepers : List K) (config : ServeConfig) (places kept : ℕ) → places ≡ length posts
    → kept ≡ length keepers → (kept ≡ length config.front.accounts) × (0 < places) × (places ≤ 64) → IsStaffedFor posts keepers config
staffed_for posts keepers config places kept places_are kept_are (many, some, few) = record {
  as_many = sym kept_are ∙ many;
  some_post = subst (λ n. 0 < n) places_are some;
  few_posts = subst (λ n. n ≤ 64) places_are few;
}

-- the text was read as one list, and is handed on as another, equal one
pub staffed_as : {N E K : Type 0} (posts : List (Post N E)) (keepers : List K) (words : List (List ℕ)) (asked text given : List ℕ) (places kept : ℕ)
    → asked ≡ text → given ≡ text → places ≡ length posts → kept ≡ length keepers
    → ((config : ServeConfig) → ReadsConfig asked (Ok config) → (kept ≡ length config.front.accounts) × (0 < places) × (places ≤ 64))
    → IsStaffed posts keepers words given
staffed_as posts keepers words asked text given places kept asked_is given_is places_are kept_are fits = λ read config reads there.
    staffed_for posts keepers config places kept places_are kept_are
    (fits config (subst (λ t. ReadsConfig t (Ok config)) (given_is ∙ sym asked_is) there))
