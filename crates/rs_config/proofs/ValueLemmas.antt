-- Arrays as lists, and users read in turn.
use Rattle.std.proofs.Common.{◌≡◌, ◌∙◌, ◌<◌, ◌+◌, ap, subst, append_assoc, length, get_or, ℕ, Bool, true, false, not, cond, string_bytes, List, [], ◌∷◌, ◌++◌, map, drop, Option, Some, None, option_map, Ok, Err, Result, refl, sym}
use Rattle.std.specs.Prelude.{filter, flat_map}
use Rattle.std.specs.List.{list_all}
use Rattle.std.proofs.lemmas.List.{drop_more}
use Rattle.std.proofs.lemmas.Bool.{and_parts}
use Rattle.rs_path.specs.Users.{is_user}
use Rattle.rs_exchange.specs.Accounts.{names_of}
use Rattle.toml.specs.Data.{Data}
use Rattle.toml.specs.View.{view, items_of, items_view, members_view, array_view}
use Rattle.toml.specs.declared.value.Value.{Value}
use Rattle.toml.proofs.Views.{Entry}
use Rattle.rs_exchange.specs.declared.account.Account.{Account}
use Rattle.rs_config.specs.declared.serve_config.Room.{Room}
use Rattle.rs_config.specs.declared.serve_config.UserSettings.{UserSettings}
use Rattle.rs_config.specs.declared.config_key.ConfigKey.{ConfigKey}
use Rattle.rs_config.specs.declared.config_fault.ConfigFault.{ConfigFault}
use Rattle.rs_config.specs.declared.config_fault.ConfigFault.TheVariants as fault
use Rattle.rs_config.specs.ConfigKeys.{is_known}
use Rattle.rs_config.specs.TomlValues.{RefusesKey}
use Rattle.rs_config.specs.UserSettings.{user_setting}
use Rattle.rs_config.specs.ServeSettings.{ConfiguredUsers, list_of_items, users_from}
use Rattle.rs_config.specs.ConfigReadings.{unknown_in, member_names, unknown_of_user}

pub listed_items : (values : List Data) → list_of_items (items_of values) ≡ values
listed_items [] = refl
listed_items (value ∷ values) = ap (λ rest. value ∷ rest) (listed_items values)

-- a user read, and then those after it
pub one_read : (accounts : List Account) (rooms : List Room) (value : Data) (rest : List Data) (user : UserSettings)
    → user_setting accounts rooms value ≡ Ok user
    → users_from accounts rooms (value ∷ rest) ≡ users_from (accounts ++ user.account ∷ []) (rooms ++ user.room ∷ []) rest
one_read accounts rooms value rest user read = rw read refl

-- a user refused
pub one_refused : (f : ConfigFault) (accounts : List Account) (rooms : List Room) (value : Data) (rest : List Data)
    → RefusesKey f (user_setting accounts rooms value) → RefusesKey f (users_from accounts rooms (value ∷ rest))
one_refused fault.Toml accounts rooms value rest h = h
one_refused (fault.Key key) accounts rooms value rest h = rw h refl
one_refused fault.NoMemory accounts rooms value rest h = h

-- the keys of a table with one more entry
pub unknown_more : (known : List ConfigKey) (done : List Entry) (e : Entry)
    → unknown_in known (members_view (done ++ e ∷ [])) ≡ unknown_in known (members_view done) ++ cond (is_known known (string_bytes e.0)) [] (string_bytes e.0 ∷ [])
unknown_more known [] e = go (is_known known (string_bytes e.0))
  where
    go : (b : Bool) → cond (not b) (string_bytes e.0 ∷ []) [] ≡ cond b [] (string_bytes e.0 ∷ [])
    go true = refl
    go false = refl
unknown_more known (x ∷ done) e = go (is_known known (string_bytes x.0)) (unknown_more known done e)
  where
    go : (b : Bool) → unknown_in known (members_view (done ++ e ∷ [])) ≡ unknown_in known (members_view done) ++ cond (is_known known (string_bytes e.0)) [] (string_bytes e.0 ∷ [])
        → cond (not b) (string_bytes x.0 ∷ unknown_in known (members_view (done ++ e ∷ []))) (unknown_in known (members_view (done ++ e ∷ [])))
        ≡ cond (not b) (string_bytes x.0 ∷ unknown_in known (members_view done)) (unknown_in known (members_view done)) ++ cond (is_known known (string_bytes e.0)) [] (string_bytes e.0 ∷ [])
    go true h = h
    go false h = ap (λ names. string_bytes x.0 ∷ names) h

-- ---- steps of loops over values

left_more : (values : List Value) (i : ℕ) (value : Value) → i < length values → value ≡ get_or values i value
    → map view (drop i values) ≡ view value ∷ map view (drop (i + 1) values)
left_more values i value low at = ap (map view) (drop_more values i value low) ∙ ap (λ (v : Value). view v ∷ map view (drop (i + 1) values)) (sym at)

pub loop_read : (values : List Value) (i : ℕ) (value : Value) → i < length values → value ≡ get_or values i value
    → (accounts : List Account) (rooms : List Room) (user : UserSettings) (all : Result ConfiguredUsers ConfigKey)
    → user_setting accounts rooms (view value) ≡ Ok user → users_from accounts rooms (map view (drop i values)) ≡ all
    → users_from (accounts ++ user.account ∷ []) (rooms ++ user.room ∷ []) (map view (drop (i + 1) values)) ≡ all
loop_read values i value low at accounts rooms user all read before =
    sym (one_read accounts rooms (view value) (map view (drop (i + 1) values)) user read)
    ∙ (ap (users_from accounts rooms) (sym (left_more values i value low at)) ∙ before)

pub loop_refused : (values : List Value) (i : ℕ) (value : Value) → i < length values → value ≡ get_or values i value
    → (accounts : List Account) (rooms : List Room) (f : ConfigFault) (all : Result ConfiguredUsers ConfigKey)
    → RefusesKey f (user_setting accounts rooms (view value)) → users_from accounts rooms (map view (drop i values)) ≡ all
    → RefusesKey f all
loop_refused values i value low at accounts rooms f all refused before =
    subst (RefusesKey f) (ap (users_from accounts rooms) (sym (left_more values i value low at)) ∙ before)
    (one_refused f accounts rooms (view value) (map view (drop (i + 1) values)) refused)

pub names_more : (accounts : List Account) (account : Account) → list_all is_user (names_of accounts) ≡ true → is_user account.name ≡ true
    → list_all is_user (names_of (accounts ++ account ∷ [])) ≡ true
names_more [] account all one = rw one refl
names_more (a ∷ accounts) account all one =
    let parts = and_parts (is_user a.name) (list_all is_user (names_of accounts)) all in
    rw (parts.0, names_more accounts account parts.1 one) refl

pub loop_unknown : (values : List Value) (i : ℕ) (value : Value) → i < length values → value ≡ get_or values i value
    → (before after all : List (List ℕ)) → after ≡ before ++ unknown_of_user (view value)
    → before ++ flat_map unknown_of_user (map view (drop i values)) ≡ all
    → after ++ flat_map unknown_of_user (map view (drop (i + 1) values)) ≡ all
loop_unknown values i value low at before after all added so_far =
    ap (λ names. names ++ flat_map unknown_of_user (map view (drop (i + 1) values))) added
    ∙ (append_assoc before (unknown_of_user (view value)) (flat_map unknown_of_user (map view (drop (i + 1) values)))
    ∙ (ap (λ rest. before ++ flat_map unknown_of_user rest) (sym (left_more values i value low at)) ∙ so_far))
