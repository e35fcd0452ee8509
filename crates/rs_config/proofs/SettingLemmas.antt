-- Settings read one after another: all of them, or the first that is refused.
use Rattle.std.proofs.Common.{◌≡◌, ◌∙◌, ap, subst, ℕ, List, [], Option, Some, None, Ok, Err, Result, refl, sym, map}
use Rattle.toml.specs.Data.{Data, Members}
use Rattle.rs_exchange.specs.declared.account.Account.{Account}
use Rattle.rs_config.specs.declared.serve_config.Room.{Room}
use Rattle.rs_config.specs.declared.serve_config.UserSettings.{UserSettings}
use Rattle.rs_config.specs.declared.serve_config.ServeConfig.{ServeConfig}
use Rattle.rs_config.specs.declared.config_key.ConfigKey.{ConfigKey}
use Rattle.rs_config.specs.declared.config_fault.ConfigFault.{ConfigFault}
use Rattle.rs_config.specs.declared.config_fault.ConfigFault.TheVariants as fault
use Rattle.rs_config.specs.TomlValues.{RefusesKey, and_read}
use Rattle.rs_config.specs.UserSettings.{name_setting, file_setting, salt_setting, secret_setting, quota_setting, user_setting_in, user_with}
use Rattle.rs_config.specs.ServeSettings.{ConfiguredUsers, Settings, base_setting, listen_setting, wait_setting, user_values, users_from, settings_in, settings_with}
use Rattle.rs_config.specs.ConfigReadings.{ConfiguresFrom, ReadsConfig, IsTableOf, HasSettings, unknown_with}

and_ok : {X Y : Type 0} (r : Result X ConfigKey) (x : X) (next : X → Result Y ConfigKey) → r ≡ Ok x → and_read r next ≡ next x
and_ok r x next e = ap (λ q. and_read q next) e

and_err : {X Y : Type 0} (r : Result X ConfigKey) (key : ConfigKey) (next : X → Result Y ConfigKey) → r ≡ Err key → and_read r next ≡ Err key
and_err r key next e = ap (λ q. and_read q next) e

and_refused : {X Y : Type 0} (f : ConfigFault) (r : Result X ConfigKey) (next : X → Result Y ConfigKey) → RefusesKey f r → RefusesKey f (and_read r next)
and_refused fault.Toml r next h = h
and_refused (fault.Key key) r next h = and_err r key next h
and_refused fault.NoMemory r next h = h

-- ---- the top of the file

module _ (table : Members) (base : List ℕ) (b : base_setting table ≡ Ok base) where
  pub listen_next : (f : ConfigFault) → RefusesKey f (listen_setting table) → RefusesKey f (settings_in table)
  listen_next f h = subst (RefusesKey f) (sym (and_ok _ base _ b)) (and_refused f _ _ h)

  module _ (listen : List ℕ) (l : listen_setting table ≡ Ok listen) where
    pub wait_next : (f : ConfigFault) → RefusesKey f (wait_setting table) → RefusesKey f (settings_in table)
    wait_next f h = subst (RefusesKey f) (sym (and_ok _ base _ b ∙ and_ok _ listen _ l)) (and_refused f _ _ h)

    module _ (wait : ℕ) (w : wait_setting table ≡ Ok wait) where
      pub values_next : (f : ConfigFault) → RefusesKey f (user_values table) → RefusesKey f (settings_in table)
      values_next f h = subst (RefusesKey f) (sym (and_ok _ base _ b ∙ (and_ok _ listen _ l ∙ and_ok _ wait _ w))) (and_refused f _ _ h)

      module _ (values : List Data) (v : user_values table ≡ Ok values) where
        pub users_next : (f : ConfigFault) → RefusesKey f (users_from [] [] values) → RefusesKey f (settings_in table)
        users_next f h =
            subst (RefusesKey f) (sym (and_ok _ base _ b ∙ (and_ok _ listen _ l ∙ (and_ok _ wait _ w ∙ and_ok _ values _ v)))) (and_refused f _ _ h)

        pub all_read : (users : ConfiguredUsers) → users_from [] [] values ≡ Ok users → settings_in table ≡ Ok (settings_with base listen wait users)
        all_read users u = and_ok _ base _ b ∙ (and_ok _ listen _ l ∙ (and_ok _ wait _ w ∙ (and_ok _ values _ v ∙ and_ok _ users _ u)))

-- ---- the file

pub reads_from : (text : List ℕ) (table : Members) (r : Result ServeConfig ConfigFault) → IsTableOf text table → ConfiguresFrom table r → ReadsConfig text r
reads_from text table (Ok config) is h = (table, is, h)
reads_from text table (Err fault.Toml) is h = absurd h
reads_from text table (Err (fault.Key key)) is h = (table, is, h)
reads_from text table (Err fault.NoMemory) is h = tt
