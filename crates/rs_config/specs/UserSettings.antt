-- What the file says of a user.
use Rattle.std.specs.Prelude.{ℕ, Bool, true, not, ◌&&◌, ◌==◌, List, [], length, Option, Some, None, is_some, option_map, option_and_then, ok_or, Result, Ok}
use Rattle.std.specs.List.{list_any}
use Rattle.std.specs.Str.{bytes_eq}
use Rattle.toml.specs.Data.{Data, Members, as_str, as_table, get_member}
use Rattle.rs_path.specs.Users.{is_user}
use Rattle.rs_exchange.specs.declared.account.Account.{Account}
use Rattle.rs_exchange.specs.Accounts.{account_of}
use Rattle.rs_config.specs.declared.serve_config.Room.{Room}
use Rattle.rs_config.specs.declared.serve_config.UserSettings.{UserSettings}
use Rattle.rs_config.specs.declared.config_key.ConfigKey.{ConfigKey}
use Rattle.rs_config.specs.declared.config_key.ConfigKey.TheVariants as key
use Rattle.rs_config.specs.ConfigKeys.{config_key_text}
use Rattle.rs_config.specs.Secrets.{secret_reading}
use Rattle.rs_config.specs.TomlValues.{text_with, number_of, needed, usual_or, and_read}

-- a text that isn't empty
abbrev pub is_filled : List ℕ → Bool
is_filled text = not (length text == 0)

-- the name of a user, which no account has
abbrev pub is_new_user : List Account → List ℕ → Bool
is_new_user accounts name = is_user name && not (is_some (account_of accounts name))

abbrev pub name_setting : List Account → Members → Result (List ℕ) ConfigKey
name_setting accounts table = needed (is_new_user accounts) key.Name (text_with key.Name table)

-- the room's rows are in the file of this name
abbrev pub is_file_of : List ℕ → Room → Bool
is_file_of file room = bytes_eq room.file file

-- a text that isn't empty, and that no room has
abbrev pub is_new_file : List Room → List ℕ → Bool
is_new_file rooms file = is_filled file && not (list_any (is_file_of file) rooms)

abbrev pub file_setting : List Room → Members → Result (List ℕ) ConfigKey
file_setting rooms table = needed (is_new_file rooms) key.File (text_with key.File table)

-- a text, by default empty
abbrev pub salt_setting : Members → Result (List ℕ) ConfigKey
salt_setting table = usual_or [] as_str key.Salt (get_member (config_key_text key.Salt) table)

-- a digest, by default none
abbrev pub secret_in : Data → Option (List ℕ)
secret_in value = option_and_then secret_reading (as_str value)

abbrev pub secret_setting : Members → Result (Option (List ℕ)) ConfigKey
secret_setting table = usual_or None (λ value. option_map Some (secret_in value)) key.Secret (get_member (config_key_text key.Secret) table)

-- a whole number of bytes that isn't negative, by default 1,073,741,824
abbrev pub usual_quota : ℕ
usual_quota = 1073741824

abbrev pub quota_setting : Members → Result ℕ ConfigKey
quota_setting table = usual_or usual_quota number_of key.Quota (get_member (config_key_text key.Quota) table)

-- a user of these settings
abbrev pub user_with : (name file salt : List ℕ) → Option (List ℕ) → ℕ → UserSettings
user_with name file salt secret quota = record {
  account = record { name = name; salt = salt; secret = secret };
  room = record { file = file; quota = quota };
}

-- a user, beside these accounts and these rooms: the first key that is wrong is refused
abbrev pub user_setting_in : List Account → List Room → Members → Result UserSettings ConfigKey
user_setting_in accounts rooms table =
    and_read (name_setting accounts table) (λ name.
    and_read (file_setting rooms table) (λ file.
    and_read (salt_setting table) (λ salt.
    and_read (secret_setting table) (λ secret.
    and_read (quota_setting table) (λ quota. Ok (user_with name file salt secret quota))))))

abbrev pub user_setting : List Account → List Room → Data → Result UserSettings ConfigKey
user_setting accounts rooms value = and_read (ok_or (as_table value) key.User) (user_setting_in accounts rooms)
