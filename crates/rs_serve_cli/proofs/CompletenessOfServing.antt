-- Without a fault and a refusal `serve` succeeds, or memory ran out.
use Rattle.std.proofs.Common.{◌≡◌, ◌≢◌, ℕ, zero, suc, ◌+◌, ◌<◌, ◌⊎◌, inl, inr, ◌||◌, Bool, true, false, List, [], ◌∷◌, length, map, get_or, Option, Some, None, Result, Ok, Err, refl, sym, ap, ◌∙◌, subst, arith}
use Rattle.std.specs.Prelude.{IfSome}
use Rattle.clap.specs.Words.{Text, takes}
use Rattle.rs_face.specs.declared.sink.SinkFault.{SinkFault}
use Rattle.rs_face.specs.declared.sink.SinkFault.TheVariants as sink
use Rattle.rs_face.specs.Causes.{HasCause, Rose}
use Rattle.rs_face.specs.Courses.{Course, HasFailed}
use Rattle.rs_row.specs.declared.open_fault.OpenFault.{OpenFault}
use Rattle.rs_row.specs.declared.open_fault.OpenFault.TheVariants as opening_fault
use Rattle.rs_rules.specs.Histories.{History}
use Rattle.rs_user.specs.Openings.{opening}
use Rattle.rs_exchange.specs.declared.account.Config.{Config}
use Rattle.rs_hall.specs.declared.hall_fault.HallFault.TheVariants.{User}
use Rattle.rs_hall.specs.Abreast.{EachTriple, no_triple, one_triple}
use Rattle.rs_hall.specs.Entrances.{HallRefuses, IsRefusedFor, told_of_user}
use Rattle.rs_hall.specs.Halls.{by_user}
use Rattle.rs_work.specs.Connections.{EndsBy}
use Rattle.rs_config.specs.declared.config_fault.ConfigFault.{ConfigFault}
use Rattle.rs_config.specs.declared.config_fault.ConfigFault.TheVariants as config_fault
use Rattle.rs_config.specs.declared.words.ServeFault.{ServeFault}
use Rattle.rs_config.specs.declared.words.ServeFault.TheVariants as words_fault
use Rattle.rs_config.specs.ConfigReadings.{ReadsConfig}
use Rattle.rs_config.specs.ServeSettings.{settings_in}
use Rattle.rs_config.specs.ServeWordings.{serve_app, ReadsServe}
use Rattle.rs_cli.specs.declared.note.Note.{Note}
use Rattle.rs_cli.specs.declared.note.Note.TheVariants as note
use Rattle.rs_cli.specs.Causes.{note_of_config, note_of_opening, note_of_printing}
use Rattle.rs_cli.specs.Completeness.{IsGood}
use Rattle.rs_cli.specs.Grants.{Prints}
use Rattle.rs_serve.specs.declared.post.Post.{Post}
use Rattle.rs_serve.specs.Runs.{Tellings, PostRun, IsRunOf, failed_by}
use Rattle.rs_serve_cli.specs.ServeRuns.{Premises, EndsServing, ServesConfig, ServesFile, RunsServe, RefusesUser, SaysOfWords}
use Rattle.rs_serve_cli.specs.ServeCompleteness.{IsConfigured, OpensAll, IsFaultlessServing}

-- ---- causes that can't come

printed : {A : Type 0} (before now : ℕ) (result : Result A SinkFault) (said : Note) → (Rose before now → ⊥) → HasCause before now sink.Failed result
    → said ≡ note_of_printing result → IsGood said
printed before now (Ok done) said never cause is = inl is
printed before now (Err sink.Failed) said never cause is = absurd (never (cause.failed refl))
printed before now (Err sink.NoMemory) said never cause is = inr is

prints_well : (it : Course (List ℕ)) (line : List ℕ) (said : Note) → (HasFailed it → ⊥) → Prints it line said → IsGood said
prints_well it line said never prints = printed it.before it.now prints.result said never prints.cause prints.said

not_failed : {C : Type 0} (b : Bool) (faults faults' ends ends' : ℕ) (coming : Option (List C)) → EndsBy b faults faults' ends ends' coming
    → (Rose faults faults' → ⊥) → b ≡ false
not_failed true faults faults' ends ends' coming rose never = absurd (never rose)
not_failed false faults faults' ends ends' coming ends_so never = refl

ends_well : (it : Course (List ℕ)) (failed : Bool) (served : ℕ) (said : Note) → failed ≡ false → (HasFailed it → ⊥) → EndsServing it failed served said → IsGood said
ends_well it true served said unfailed never ends = absurd cc
ends_well it false served said unfailed never prints = prints_well it _ said never prints

-- rows that are opened aren't refused
not_refused : (told : Option (List (List ℕ))) (kept : List (List ℕ)) (h : History) (f : OpenFault) → told ≡ Some kept → opening kept ≡ Ok h
    → IfSome told (IsRefusedFor f) → f ≡ opening_fault.KeeperFailed
not_refused told kept h f is opens refused = go f (subst (λ o. IfSome o (IsRefusedFor f)) is refused)
  where
    go : (f : OpenFault) → IsRefusedFor f kept → f ≡ opening_fault.KeeperFailed
    go (opening_fault.BadRow index place) wrong = absurd cc
    go (opening_fault.Unlawful index) wrong = absurd cc
    go opening_fault.KeeperFailed wrong = refl
    go opening_fault.NoMemory wrong = absurd wrong

-- a file that says how to serve is refused for want of memory alone
config_well : (text : List ℕ) (f : ConfigFault) (said : Note) → IsConfigured text → ReadsConfig text (Err f) → said ≡ note_of_config f → said ≡ note.NoMemory
config_well text config_fault.Toml said (table, is, made) none says =
    let wrong = none is.utf8 in
    let right = is.parsed in
    absurd cc
config_well text (config_fault.Key key) said (table, is, made) (table', is', refused) says =
    let right = is.parsed in
    let also = is'.parsed in
    let same : table ≡ table' = cc in
    let left : settings_in table' ≡ Ok made.0 = sym (ap settings_in same) ∙ made.1 in
    absurd cc
config_well text config_fault.NoMemory said configured read says = says

module _ {N E S W K : Type 0} (tells : Tellings N E S W) (rows : K → Option (List (List ℕ))) (row_count faults : K → ℕ) where
  none_failed : (config : Config) (quotas : List ℕ) {olds news : List (Post N E)} {runs : List PostRun} → EachTriple (IsRunOf tells config quotas) olds news runs
      → ((place : ℕ) (d : Post N E) → place < length olds → Rose (tells.faults (get_or olds place d).listener) (tells.faults (get_or news place d).listener) → ⊥)
      → failed_by runs ≡ false
  none_failed config quotas no_triple never = refl
  none_failed config quotas (one_triple {x} {y} {z} {xs} {ys} {zs} did rest) never =
      ap (λ b. b || failed_by zs) (not_failed z.end.failed _ _ _ _ _ did.ended (never 0 x (omega arith)))
      ∙ none_failed config quotas rest (λ place d within. never (suc place) d (omega (arith, within)))

  user_well : (at : Premises N E K) (user : Option ℕ) (said : Note) → OpensAll rows at.keepers → IsFaultlessServing tells.faults faults at
      → RefusesUser tells rows row_count faults at user said → IsGood said
  user_well at user said opens faultless refuses =
      let (within, memory, first, kept) = refuses.refused.refused in
      let opened = opens refuses.who within in
      absurd (faultless.keepers refuses.who (first.cause (not_refused _ opened.0 opened.2.0 refuses.fault opened.1 opened.2.1 first.refused)))

  file_well : (at : Premises N E K) (text : List ℕ) (user : Option ℕ) (said : Note) → IsConfigured text → OpensAll rows at.keepers → IsFaultlessServing tells.faults faults at
      → ServesFile tells rows row_count faults at text user said → IsGood said
  file_well at text user said configured opens faultless (inl (config, read, inl served)) =
      let did = served.serves.posts_did in
      ends_well at.sink served.tally.failed served.tally.served said
      (did.failed ∙ none_failed config.front _ did.each faultless.listeners) faultless.sink served.ends
  file_well at text user said configured opens faultless (inl (config, read, inr (inl refused))) = user_well at user said opens faultless refused
  file_well at text user said configured opens faultless (inl (config, read, inr (inr wants))) = inr wants.says
  file_well at text user said configured opens faultless (inr (refused, nobody)) = inr (config_well text refused.fault said configured refused.read refused.says)

  pub serves_well : (at : Premises N E K) (words : List Text) (text : List ℕ) (user : Option ℕ) (said : Note)
      → RunsServe tells rows row_count faults at words text user said → takes serve_app words ≡ true → IsConfigured text → OpensAll rows at.keepers
      → IsFaultlessServing tells.faults faults at → IsGood said
  serves_well at words text user said (inl (read, right, serves)) taken configured opens faultless = file_well at text user said configured opens faultless serves
  serves_well at words text user said (inr (refused, nobody)) taken configured opens faultless = go refused.fault refused.read refused.says
    where
      go : (f : ServeFault) → ReadsServe words (Err f) → SaysOfWords at f said → IsGood said
      go words_fault.Words bad says = let wrong = bad.0 in absurd cc
      go words_fault.Help bad says = let wrong = bad.0 in absurd cc
      go words_fault.NoMemory bad says = inr says.0
