-- What a file says of its users: as many rooms as accounts, and the same whenever it is read.
use Rattle.std.proofs.Common.{◌≡◌, ◌∙◌, ◌≤◌, ◌+◌, ℕ, Bool, true, false, cond, List, [], ◌∷◌, ◌++◌, length, Option, Some, None, Result, Ok, Err, refl, sym, ap, subst, arith, length-append}
use Rattle.std.specs.Prelude.{◌&&◌, nat_le}
use Rattle.std.proofs.lemmas.Bool.{cases_Bool, true≢false}
use Rattle.toml.specs.Data.{Data, Members}
use Rattle.toml.specs.Parse.{parse_document}
use Rattle.rs_exchange.specs.declared.account.Account.{Account}
use Rattle.rs_exchange.specs.declared.account.Config.{Config}
use Rattle.rs_config.specs.declared.serve_config.UserSettings.{UserSettings}
use Rattle.rs_config.specs.declared.serve_config.Room.{Room}
use Rattle.rs_config.specs.declared.serve_config.ServeConfig.{ServeConfig}
use Rattle.clap.specs.Words.{Text, Kinds, IsAmong, fault_of}
use Rattle.clap.specs.declared.error.kind.ErrorKind.{ErrorKind}
use Rattle.rs_config.specs.declared.config_fault.ConfigFault.{ConfigFault}
use Rattle.rs_config.specs.declared.config_fault.ConfigFault.TheVariants as fault
use Rattle.rs_config.specs.declared.words.ServeFault.{ServeFault}
use Rattle.rs_config.specs.declared.words.ServeFault.TheVariants as words_fault
use Rattle.rs_config.specs.declared.words.ServeWords.{ServeWords}
use Rattle.rs_config.specs.ServeWordings.{ReadsServe, serve_app}
use Rattle.rs_config.specs.declared.config_key.ConfigKey.{ConfigKey}
use Rattle.rs_config.specs.declared.config_key.ConfigKey.TheVariants as key
use Rattle.rs_config.specs.TomlValues.{and_read, needed, tested}
use Rattle.rs_config.specs.UserSettings.{user_setting}
use Rattle.rs_config.specs.ServeSettings.{ConfiguredUsers, Settings, base_setting, listen_setting, wait_setting, user_values, user_array, users_from, settings_in, settings_with, is_user_count}
use Rattle.rs_config.specs.ConfigReadings.{ReadsConfig, HasSettings, front_of, unknown_with}

-- ---- readings, one after another

ok_same : {X : Type 0} (a b : X) (read : Result X ConfigKey) → read ≡ Ok a → read ≡ Ok b → a ≡ b
ok_same a b read is also = cc

some_same : {X : Type 0} (a b : X) → Some a ≡ Some b → a ≡ b
some_same a b is = cc

and_read_ok : {X Y : Type 0} (read : Result X ConfigKey) (next : X → Result Y ConfigKey) (y : Y) → and_read read next ≡ Ok y
    → (x : X) × (read ≡ Ok x) × (next x ≡ Ok y)
and_read_ok (Ok x) next y is = (x, refl, is)
and_read_ok (Err key) next y is = cc

needed_passes : {X : Type 0} (test : X → Bool) (key : ConfigKey) (found : Option X) (x : X) → needed test key found ≡ Ok x → test x ≡ true
needed_passes test key None x is = cc
needed_passes test key (Some v) x is = go (test v) refl is
  where
    go : (b : Bool) → test v ≡ b → needed test key (Some v) ≡ Ok x → test x ≡ true
    go true e is =
        let it : needed test key (Some v) ≡ Ok v = rw e refl in
        ap test (sym (ok_same v x (needed test key (Some v)) it is)) ∙ e
    go false e is =
        let it : needed test key (Some v) ≡ Err key = rw e refl in
        cc

-- ---- the users

-- so many rooms as accounts, and so many as there were and values
users_counted : (accounts : List Account) (rooms : List Room) (values : List Data) (users : ConfiguredUsers) → length rooms ≡ length accounts
    → users_from accounts rooms values ≡ Ok users → (length users.rooms ≡ length users.accounts) × (length users.accounts ≡ length accounts + length values)
users_counted accounts rooms [] users same is =
    subst (λ (u : ConfiguredUsers). (length u.rooms ≡ length u.accounts) × (length u.accounts ≡ length accounts + 0))
    (ok_same (record { accounts = accounts; rooms = rooms }) users (users_from accounts rooms []) refl is) (same, omega arith)
users_counted accounts rooms (value ∷ rest) users same is =
    let step = and_read_ok (user_setting accounts rooms value) (λ (user : UserSettings). users_from (accounts ++ user.account ∷ []) (rooms ++ user.room ∷ []) rest) users is in
    let more_accounts = length-append accounts (step.0.account ∷ []) in
    let more_rooms = length-append rooms (step.0.room ∷ []) in
    let counted = users_counted (accounts ++ step.0.account ∷ []) (rooms ++ step.0.room ∷ []) rest users (omega (arith, same, more_accounts, more_rooms)) step.2 in
    (counted.0, omega (arith, counted.1, more_accounts))

few_values : (values : List Data) → is_user_count values ≡ true → length values ≤ 1000
few_values values is = grind arith

-- the users of a table
record UsersOf (table : Members) (users : ConfiguredUsers) : Type 0 where
  pub rooms : length users.rooms ≡ length users.accounts
  pub few : length users.accounts ≤ 1000

users_of : (table : Members) (settings : Settings) → settings_in table ≡ Ok settings → UsersOf table settings.users
users_of table settings is =
    let base = and_read_ok (base_setting table) _ settings is in
    let listen = and_read_ok (listen_setting table) _ settings base.2 in
    let wait = and_read_ok (wait_setting table) _ settings listen.2 in
    let values = and_read_ok (user_values table) _ settings wait.2 in
    let users = and_read_ok (users_from [] [] values.0) _ settings values.2 in
    let counted = users_counted [] [] values.0 users.0 refl users.1 in
    let few = few_values values.0 (needed_passes is_user_count key.User (user_array table) values.0 values.1) in
    let made = settings_with base.0 listen.0 wait.0 users.0 in
    subst (λ (s : Settings). UsersOf table s.users) (ok_same made settings (Ok made) refl users.2)
    (record { rooms = counted.0; few = omega (arith, counted.1, few) })

-- ---- the laws

pub rooms_law : (text : List ℕ) (config : ServeConfig) → ReadsConfig text (Ok config) → length config.rooms.items ≡ length config.front.accounts
rooms_law text config (table, is, made) =
    let has = made.4 in
    ap length has.rooms ∙ (users_of table made.0 made.2).rooms ∙ sym (ap (λ (f : Config). length f.accounts) has.front)

pub few_law : (text : List ℕ) (config : ServeConfig) → ReadsConfig text (Ok config) → length config.front.accounts ≤ 1000
few_law text config (table, is, made) =
    subst (λ n. n ≤ 1000) (sym (ap (λ (f : Config). length f.accounts) made.4.front)) (users_of table made.0 made.2).few

pub one_law : (text : List ℕ) (config other : ServeConfig) → ReadsConfig text (Ok config) → ReadsConfig text (Ok other) → other.front ≡ config.front
one_law text config other (table, is, made) (table', is', made') =
    let same : table ≡ table' = some_same table table' (sym is.parsed ∙ is'.parsed) in
    let settled : made.0 ≡ made'.0 = ok_same made.0 made'.0 (settings_in table') (sym (ap settings_in same) ∙ made.2) made'.2 in
    made'.4.front ∙ ap front_of (sym settled) ∙ sym made.4.front

pub refused_law : (text : List ℕ) (config : ServeConfig) (f : ConfigFault) → ReadsConfig text (Ok config) → ReadsConfig text (Err f) → f ≡ fault.NoMemory
refused_law text config fault.Toml (table, is, made) none =
    let wrong = none is.utf8 in
    let right = is.parsed in
    absurd cc
refused_law text config (fault.Key key) (table, is, made) (table', is', wrong) =
    let same : table ≡ table' = some_same table table' (sym is.parsed ∙ is'.parsed) in
    let right : settings_in table' ≡ Ok made.0 = sym (ap settings_in same) ∙ made.2 in
    absurd cc
refused_law text config fault.NoMemory ok bad = refl

no_kind : (kinds : Kinds) (k : ErrorKind) → kinds ≡ [] → IsAmong k kinds → ⊥
no_kind [] k is among = among
no_kind (x ∷ xs) k is among = absurd cc

pub words_law : (words : List Text) (read : ServeWords) (f : ServeFault) → ReadsServe words (Ok read) → ReadsServe words (Err f) → f ≡ words_fault.NoMemory
words_law words read words_fault.Words ok bad = absurd (no_kind (fault_of serve_app words) bad.1.0 ok.0 bad.1.1)
words_law words read words_fault.Help ok bad = absurd (no_kind (fault_of serve_app words) bad.1.0 ok.0 bad.1.1)
words_law words read words_fault.NoMemory ok bad = refl
