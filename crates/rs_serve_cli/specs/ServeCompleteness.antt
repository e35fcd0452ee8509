-- Where no count of faults rose and nothing refuses, `serve` succeeds or memory ran out.
use Rattle.std.specs.Prelude.{◌≡◌, ℕ, ◌⊎◌, ◌<◌, List, length, map, slice_index_or, Option, Some, Ok}
use Rattle.rs_face.specs.Causes.{Rose}
use Rattle.rs_face.specs.Courses.{HasFailed}
use Rattle.rs_rules.specs.Histories.{History}
use Rattle.rs_user.specs.Openings.{opening}
use Rattle.rs_hall.specs.Entrances.{told_of_user}
use Rattle.rs_hall.specs.Halls.{by_user}
use Rattle.toml.specs.Data.{Members}
use Rattle.rs_config.specs.ConfigReadings.{IsTableOf}
use Rattle.rs_config.specs.ServeSettings.{Settings, settings_in}
use Rattle.rs_serve.specs.declared.post.Post.{Post}
use Rattle.rs_serve_cli.specs.ServeRuns.{Premises}

-- the file says how to serve: it is TOML, and no key is wrong
abbrev pub IsConfigured : List ℕ → Type 0
IsConfigured text = (table : Members) × IsTableOf text table × ((settings : Settings) × (settings_in table ≡ Ok settings))

-- the rows of each user are told, and are opened as a history
abbrev pub OpensAll : {K : Type 0} → (K → Option (List (List ℕ))) → List K → Type 0
OpensAll rows keepers = (user : ℕ) → user < length keepers
    → (kept : List (List ℕ)) × (told_of_user (map rows keepers) user ≡ Some kept) × ((h : History) × (opening kept ≡ Ok h))

-- no listener, no keeper and not the sink failed
pub record IsFaultlessServing {N E K : Type 0} (listener_faults : N → ℕ) (faults : K → ℕ) (at : Premises N E K) : Type 0 where
  pub listeners : (place : ℕ) (d : Post N E) → place < length at.posts
      → Rose (listener_faults (slice_index_or at.posts place d).listener) (listener_faults (slice_index_or at.posts' place d).listener) → ⊥
  pub keepers : (user : ℕ) → Rose (by_user (map faults at.keepers) user) (by_user (map faults at.keepers') user) → ⊥
  pub sink : HasFailed at.sink → ⊥
