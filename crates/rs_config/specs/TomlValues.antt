-- Values of TOML at keys, read as what a setting wants.
use Rattle.std.specs.Prelude.{◌≡◌, ℕ, ℤ, pos, negsuc, Bool, List, Option, Some, None, ok_or, option_and_then, Result, Ok, Err, if◌then◌else◌}
use Rattle.toml.specs.Data.{Data, Members, as_str, as_integer, get_member}
use Rattle.rs_config.specs.declared.config_key.ConfigKey.{ConfigKey}
use Rattle.rs_config.specs.declared.config_fault.ConfigFault.{ConfigFault}
use Rattle.rs_config.specs.declared.config_fault.ConfigFault.TheVariants as fault
use Rattle.rs_config.specs.ConfigKeys.{config_key_text}

-- the text at a key
abbrev pub text_with : ConfigKey → Members → Option (List ℕ)
text_with key table = option_and_then as_str (get_member (config_key_text key) table)

-- a whole number that isn't negative
abbrev pub natural : ℤ → Option ℕ
natural (pos n) = Some n
natural (negsuc n) = None

abbrev pub number_of : Data → Option ℕ
number_of value = option_and_then natural (as_integer value)

-- what the test takes
abbrev pub tested : {X : Type 0} → (X → Bool) → X → Option X
tested test x = if test x then Some x else None

-- what has to stand at the key: without it, or where it isn't what the test takes, the key is refused
abbrev pub needed : {X : Type 0} → (X → Bool) → ConfigKey → Option X → Result X ConfigKey
needed test key found = ok_or (option_and_then (tested test) found) key

-- what may stand at the key: without it the usual, and where it can't be read the key is refused
abbrev pub usual_or : {X : Type 0} → X → (Data → Option X) → ConfigKey → Option Data → Result X ConfigKey
usual_or usual read key None = Ok usual
usual_or usual read key (Some value) = ok_or (read value) key

-- one reading after another: the first that refuses, refuses
abbrev pub and_read : {X Y : Type 0} → Result X ConfigKey → (X → Result Y ConfigKey) → Result Y ConfigKey
and_read (Ok x) next = next x
and_read (Err key) next = Err key

-- what is read, seen in another way
abbrev pub seen_as : {X Y : Type 0} → (X → Y) → Result X ConfigKey → Result Y ConfigKey
seen_as seen (Ok x) = Ok (seen x)
seen_as seen (Err key) = Err key

-- a reader refuses what the definition refuses, at that key; or memory is needed
abbrev pub RefusesKey : {Y : Type 0} → ConfigFault → Result Y ConfigKey → Type 0
RefusesKey fault.Toml read = ⊥
RefusesKey (fault.Key key) read = read ≡ Err key
RefusesKey fault.NoMemory read = Unit {0}

-- a reader gives, seen so, what the definition gives
abbrev pub GivesSetting : {X Y : Type 0} → (X → Y) → Result X ConfigFault → Result Y ConfigKey → Type 0
GivesSetting seen (Ok x) read = read ≡ Ok (seen x)
GivesSetting seen (Err f) read = RefusesKey f read
