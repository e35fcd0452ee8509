-- The keys of the configuration file.
use Rattle.std.specs.Prelude.{ℕ, Bool, List, [], ◌∷◌, codes}
use Rattle.std.specs.List.{list_any}
use Rattle.std.specs.Str.{bytes_eq}
use Rattle.rs_config.specs.declared.config_key.ConfigKey.{ConfigKey}
use Rattle.rs_config.specs.declared.config_key.ConfigKey.TheVariants as key

-- the key as it stands in the file
abbrev pub config_key_text : ConfigKey → List ℕ
config_key_text key.Base = codes "base"
config_key_text key.Listen = codes "listen"
config_key_text key.Wait = codes "wait"
config_key_text key.User = codes "user"
config_key_text key.Name = codes "name"
config_key_text key.File = codes "file"
config_key_text key.Salt = codes "salt"
config_key_text key.Secret = codes "secret"
config_key_text key.Quota = codes "quota"

-- the keys at the top of the file, in the order in which they are looked at
abbrev pub top_keys : List ConfigKey
top_keys = key.Base ∷ key.Listen ∷ key.Wait ∷ key.User ∷ []

-- the keys of a user, in theirs
abbrev pub user_keys : List ConfigKey
user_keys = key.Name ∷ key.File ∷ key.Salt ∷ key.Secret ∷ key.Quota ∷ []

-- the text is one of these keys
abbrev pub is_known : List ConfigKey → List ℕ → Bool
is_known known text = list_any (λ k. bytes_eq (config_key_text k) text) known
