-- What stands at the top of the file.
use Rattle.std.specs.Prelude.{◌≡◌, ℕ, Bool, not, ◌&&◌, ◌==◌, nat_le, List, [], ◌∷◌, ◌++◌, map, length, Option, Some, None, option_map, option_and_then, Result, Ok, Err}
use Rattle.toml.specs.Data.{Data, Items, no_items, item, Members, as_array, get_member}
use Rattle.rs_exchange.specs.declared.account.Account.{Account}
use Rattle.rs_exchange.specs.declared.account.Config.{Config}
use Rattle.rs_config.specs.declared.serve_config.Room.{Room}
use Rattle.rs_config.specs.declared.serve_config.ServeConfig.{ServeConfig}
use Rattle.rs_config.specs.declared.config_key.ConfigKey.{ConfigKey}
use Rattle.rs_config.specs.declared.config_key.ConfigKey.TheVariants as key
use Rattle.rs_config.specs.ConfigKeys.{config_key_text}
use Rattle.rs_config.specs.TomlValues.{text_with, number_of, tested, needed, usual_or, and_read}
use Rattle.rs_config.specs.Origins.{is_origin, host_of}
use Rattle.rs_config.specs.UserSettings.{is_filled, user_setting}

-- an origin, as `url` prints it
abbrev pub base_setting : Members → Result (List ℕ) ConfigKey
base_setting table = needed is_origin key.Base (text_with key.Base table)

-- a text that isn't empty
abbrev pub listen_setting : Members → Result (List ℕ) ConfigKey
listen_setting table = needed is_filled key.Listen (text_with key.Listen table)

-- 1 to 3,600 seconds, by default 10
abbrev pub is_wait : ℕ → Bool
is_wait seconds = nat_le 1 seconds && nat_le seconds 3600

abbrev pub wait_in : Data → Option ℕ
wait_in value = option_and_then (tested is_wait) (number_of value)

abbrev pub wait_setting : Members → Result ℕ ConfigKey
wait_setting table = usual_or 10 wait_in key.Wait (get_member (config_key_text key.Wait) table)

-- an array's items, as a list
abbrev pub list_of_items : Items → List Data
list_of_items no_items = []
list_of_items (item value rest) = value ∷ list_of_items rest

-- the array of the users
abbrev pub user_array : Members → Option (List Data)
user_array table = option_map list_of_items (option_and_then as_array (get_member (config_key_text key.User) table))

-- 1 to 1,000 users
abbrev pub is_user_count : List Data → Bool
is_user_count values = nat_le 1 (length values) && nat_le (length values) 1000

abbrev pub user_values : Members → Result (List Data) ConfigKey
user_values table = needed is_user_count key.User (user_array table)

-- the accounts and the rooms of users
pub record ConfiguredUsers : Type 0 where
  pub accounts : List Account
  pub rooms : List Room

-- these users, and those of the values, each beside those before: the first key that is wrong is refused
abbrev pub users_from : List Account → List Room → List Data → Result ConfiguredUsers ConfigKey
users_from accounts rooms [] = Ok (record { accounts = accounts; rooms = rooms })
users_from accounts rooms (value ∷ rest) =
    and_read (user_setting accounts rooms value) (λ user. users_from (accounts ++ user.account ∷ []) (rooms ++ user.room ∷ []) rest)

-- what the file of a server says
pub record Settings : Type 0 where
  pub base : List ℕ
  pub listen : List ℕ
  pub wait : ℕ
  pub users : ConfiguredUsers

abbrev pub settings_with : (base listen : List ℕ) → ℕ → ConfiguredUsers → Settings
settings_with base listen wait users = record { base = base; listen = listen; wait = wait; users = users }

-- the settings of a file: the first key that is wrong is refused
abbrev pub settings_in : Members → Result Settings ConfigKey
settings_in table =
    and_read (base_setting table) (λ base.
    and_read (listen_setting table) (λ listen.
    and_read (wait_setting table) (λ wait.
    and_read (user_values table) (λ values.
    and_read (users_from [] [] values) (λ users. Ok (settings_with base listen wait users))))))
