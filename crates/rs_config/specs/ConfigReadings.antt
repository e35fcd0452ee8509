-- What is made of a configuration file.
use Rattle.std.specs.Prelude.{◌≡◌, ℕ, Bool, not, List, [], ◌∷◌, ◌++◌, filter, flat_map, Option, Some, None, Result, Ok, Err, IsUtf8}
use Rattle.toml.specs.Data.{Data, table as table_data, Members, no_members, member, as_array, get_member}
use Rattle.toml.specs.Parse.{parse_document}
use Rattle.rs_exchange.specs.declared.account.Config.{Config}
use Rattle.rs_config.specs.declared.serve_config.ServeConfig.{ServeConfig}
use Rattle.rs_config.specs.declared.config_fault.ConfigFault.{ConfigFault}
use Rattle.rs_config.specs.declared.config_fault.ConfigFault.TheVariants as fault
use Rattle.rs_config.specs.declared.config_key.ConfigKey.{ConfigKey}
use Rattle.rs_config.specs.ConfigKeys.{top_keys, user_keys, is_known}
use Rattle.rs_config.specs.Origins.{host_of}
use Rattle.rs_config.specs.ServeSettings.{Settings, settings_in, user_values}

-- ---- keys that nobody asks for

-- the names of the keys of a table, in its order
abbrev pub member_names : Members → List (List ℕ)
member_names no_members = []
member_names (member name value rest) = name ∷ member_names rest

-- those that aren't among the known ones
abbrev pub unknown_in : List ConfigKey → Members → List (List ℕ)
unknown_in known table = filter (λ name. not (is_known known name)) (member_names table)

-- of a user's table
abbrev pub unknown_of_user : Data → List (List ℕ)
unknown_of_user (table_data user) = unknown_in user_keys user
unknown_of_user _ = []

-- at the top, and then of each user
abbrev pub unknown_with : Members → List Data → List (List ℕ)
unknown_with table values = unknown_in top_keys table ++ flat_map unknown_of_user values

-- ---- the configuration

-- the server at this address, with these users
abbrev pub front_of : Settings → Config
front_of settings = record { base = settings.base; host = host_of settings.base; accounts = settings.users.accounts }

-- the configuration has these settings, and these keys that nobody asks for
pub record HasSettings (settings : Settings) (others : List (List ℕ)) (config : ServeConfig) : Type 0 where
  pub listen : config.listen ≡ settings.listen
  pub wait : config.wait ≡ settings.wait
  pub front : config.front ≡ front_of settings
  pub rooms : config.rooms.items ≡ settings.users.rooms
  pub unknown : config.unknown.items ≡ others

-- the table is the file's
pub record IsTableOf (text : List ℕ) (table : Members) : Type 0 where
  pub utf8 : IsUtf8 text
  pub parsed : parse_document text ≡ Some table

-- a configuration was made of the table; or its settings are refused at that key, or memory was wanted
abbrev pub ConfiguresFrom : Members → Result ServeConfig ConfigFault → Type 0
ConfiguresFrom table (Ok config) = (settings : Settings) × (values : List Data)
    × (settings_in table ≡ Ok settings) × (user_values table ≡ Ok values) × HasSettings settings (unknown_with table values) config
ConfiguresFrom table (Err fault.Toml) = ⊥
ConfiguresFrom table (Err (fault.Key key)) = settings_in table ≡ Err key
ConfiguresFrom table (Err fault.NoMemory) = Unit {0}

-- so from the file, which is no TOML where that is answered
abbrev pub ReadsConfig : List ℕ → Result ServeConfig ConfigFault → Type 0
ReadsConfig text (Err fault.Toml) = IsUtf8 text → parse_document text ≡ None
ReadsConfig text (Err fault.NoMemory) = Unit {0}
ReadsConfig text (Err (fault.Key key)) = (table : Members) × IsTableOf text table × (settings_in table ≡ Err key)
ReadsConfig text (Ok config) = (table : Members) × IsTableOf text table × ConfiguresFrom table (Ok config)
