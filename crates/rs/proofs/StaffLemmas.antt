-- The keepers and posts that `serve` hands on are those that the configuration wants.
use Rattle.std.proofs.Common.{◌≡◌, ◌∙◌, ◌≤◌, ◌<◌, ◌⊎◌, inl, inr, ℕ, List, length, Ok, sym, ap}
use Rattle.rs_config.specs.declared.serve_config.ServeConfig.{ServeConfig}
use Rattle.rs_config.specs.declared.words.ServeWords.{ServeWords}
use Rattle.rs_config.specs.ConfigReadings.{ReadsConfig}
use Rattle.rs_config.specs.ServeWordings.{ReadsServe}
use Rattle.rs_exchange.specs.declared.account.Config.{Config}
use Rattle.rs_serve.specs.declared.post.Post.{Post}
use Rattle.rs_serve_cli.specs.ServeRuns.{IsStaffed, IsStaffedFor}

-- where the words or the file are refused, nobody is wanted
pub refused_staffed : {N E K : Type 0} (posts : List (Post N E)) (keepers : List K) (words : List (List ℕ)) (text : List ℕ)
    → ((read : ServeWords) → ReadsServe words (Ok read) → ⊥) ⊎ ((config : ServeConfig) → ReadsConfig text (Ok config) → ⊥)
    → IsStaffed posts keepers words text
refused_staffed posts keepers words text (inl no_words) = λ read config reads there. absurd (no_words read reads)
refused_staffed posts keepers words text (inr no_config) = λ read config reads there. absurd (no_config config there)

-- a file is read as one configuration of accounts, with as many rooms
pub rooms_staffed : {N E K : Type 0} (posts : List (Post N E)) (keepers : List K) (words : List (List ℕ)) (text : List ℕ) (config : ServeConfig)
    → ReadsConfig text (Ok config)
    → ((text : List ℕ) (config : ServeConfig) → ReadsConfig text (Ok config) → length config.rooms.items ≡ length config.front.accounts)
    → ((text : List ℕ) (config other : ServeConfig) → ReadsConfig text (Ok config) → ReadsConfig text (Ok other) → other.front ≡ config.front)
    → length keepers ≡ length config.rooms.items → (1 ≤ length posts) × (length posts ≤ 64)
    → IsStaffed posts keepers words text
rooms_staffed posts keepers words text config reads rooms one as_many few = λ read other words_read there. record {
  as_many = as_many ∙ rooms text config reads ∙ ap (λ (c : Config). length c.accounts) (sym (one text config other reads there));
  some_post = few.0;
  few_posts = few.1;
}
