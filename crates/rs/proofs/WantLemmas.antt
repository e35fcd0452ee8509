-- Commands that want rows, and such as want none.
use Rattle.std.proofs.Common.{◌≡◌, ◌⊎◌, inl, inr, ℕ, List, Option, Some, None, IfSome, Result, Ok, Err, codes, refl, sym, ap, subst}
use Rattle.rs_face.specs.Courses.{Course, HasFailed, IsLater, IsSame, IsUntouched}
use Rattle.rs_row.specs.declared.open_fault.OpenFault.TheVariants as opening
use Rattle.rs_path.specs.Paths.{Path}
use Rattle.rs_scope.specs.declared.scope.Scope.{Scope}
use Rattle.rs_talk.specs.declared.change.Change.TheVariants as change
use Rattle.rs_talk.specs.Roots.{Root}
use Rattle.rs_cache.specs.declared.cache_fault.CacheFault.{CacheFault}
use Rattle.rs_cache.specs.declared.event.Event.{Event}
use Rattle.rs_cache.specs.declared.event.Event.TheVariants as event
use Rattle.rs_cache.specs.States.{State}
use Rattle.rs_cache.specs.Refusals.{remove_refusal, resolve_refusal}
use Rattle.rs_client.specs.declared.client_fault.ClientFault.{ClientFault}
use Rattle.rs_client.specs.declared.client_fault.ClientFault.TheVariants as client
use Rattle.rs_client.specs.Answers.{shown_document, shown_listing, shown_summary, shown_conflicts}
use Rattle.rs_cli.specs.declared.command.Command.{Command}
use Rattle.rs_cli.specs.declared.command.Command.TheVariants.{Pipe, Grant, Revoke, Connect, Put, Get, Remove, List as ListFolder, Status, Conflicts, Resolve, Help, Version}
use Rattle.rs_cli.specs.declared.command.RowsFile.{RowsFile}
use Rattle.rs_cli.specs.declared.command.RowsFile.TheVariants as file
use Rattle.rs_cli.specs.declared.note.Note.{Note}
use Rattle.rs_cli.specs.declared.note.Note.TheVariants.{KeeperFailed, NoMemory}
use Rattle.rs_cli.specs.ClientEnds.{ConnectEnds, PutEnds, AddEnds, ShowEnds}
use Rattle.rs_cli.specs.Commands.{AsksFor, ReadsCommand, file_of}
use Rattle.rs_cli.specs.Grants.{NotOpened}
use Rattle.rs_cli.specs.Outsides.{Outside}
use Rattle.rs_cli.specs.Runs.{Does, Runs}
use Rattle.rs.specs.Shells.{WantRows, file_wanted, rows_for}

-- ---- rows that weren't opened

-- the place failed, or memory ran out
abbrev pub Unopened : Course (List (List ℕ)) → Note → Type 0
Unopened rows note = (HasFailed rows × (note ≡ KeeperFailed)) ⊎ (note ≡ NoMemory)

-- nothing was done but that
pub record IsLeft (out : Outside) (note : Note) : Type 0 where
  pub same : IsSame out.rows
  pub later : IsLater out.rows
  pub unopened : Unopened out.rows note
  pub words : IsUntouched out.words
  pub source : IsUntouched out.source
  pub heard : IsLater out.source
  pub sink : IsUntouched out.sink

not_opened : (rows : Course (List (List ℕ))) (note : Note) → Unopened rows note → NotOpened rows note
not_opened rows note (inl (failed, said)) = record { fault = opening.KeeperFailed; fails = failed; said = said }
not_opened rows note (inr said) = record { fault = opening.NoMemory; fails = tt; said = said }

-- what holds of all rows holds of such as are told
of_told : {P : List (List ℕ) → Type 0} (told : Option (List (List ℕ))) → ((rows : List (List ℕ)) → P rows) → IfSome told P
of_told None all = tt
of_told (Some rows) all = all rows

connects_not : (root : Root) (token : List ℕ) (scopes : List Scope) (out : Outside) (note : Note) → IsLeft out note → Unopened out.rows note
    → ConnectEnds root token scopes out.rows out.sink note
connects_not root token scopes out note left (inl (failed, said)) = record {
  result = Err client.KeeperFailed;
  connects = record { told = of_told out.rows.old (λ rows. failed); same = left.same; later = left.later; cause = λ is. failed };
  says = (left.sink, said);
}
connects_not root token scopes out note left (inr said) = record {
  result = Err client.NoMemory;
  connects = record { told = of_told out.rows.old (λ rows. tt); same = left.same; later = left.later; cause = λ is. absurd cc };
  says = (left.sink, said);
}

puts_not : (path : Path) (kind : List ℕ) (out : Outside) (note : Note) → IsLeft out note → Unopened out.rows note
    → PutEnds path kind out.rows out.source out.sink note
puts_not path kind out note left (inl (failed, said)) = record {
  result = Err client.KeeperFailed;
  puts = record { told = of_told out.rows.old (λ rows. inr failed); same = left.same; later = left.later; cause = λ is. failed; ends = tt; read = left.heard };
  says = (left.sink, said);
}
puts_not path kind out note left (inr said) = record {
  result = Err client.NoMemory;
  puts = record { told = of_told out.rows.old (λ rows. inr tt); same = left.same; later = left.later; cause = λ is. absurd cc; ends = tt; read = left.heard };
  says = (left.sink, said);
}

adds_not : (refusal : State → Option CacheFault) (event : Event) (word : List ℕ) (out : Outside) (note : Note) → IsLeft out note → Unopened out.rows note
    → AddEnds refusal event word out.rows out.sink note
adds_not refusal event word out note left (inl (failed, said)) = record {
  result = Err client.KeeperFailed;
  adds = record { told = of_told out.rows.old (λ rows. inr failed); same = left.same; later = left.later; cause = λ is. failed };
  says = (left.sink, said);
}
adds_not refusal event word out note left (inr said) = record {
  result = Err client.NoMemory;
  adds = record { told = of_told out.rows.old (λ rows. inr tt); same = left.same; later = left.later; cause = λ is. absurd cc };
  says = (left.sink, said);
}

shows_not : (answer : State → Option (List ℕ)) (out : Outside) (note : Note) → IsLeft out note → Unopened out.rows note → ShowEnds answer out.rows out.sink note
shows_not answer out note left (inl (failed, said)) = record {
  result = Err client.KeeperFailed;
  shows = record { told = of_told out.rows.old (λ rows. failed); same = left.same; later = left.later; cause = λ is. failed };
  says = (left.sink, said);
}
shows_not answer out note left (inr said) = record {
  result = Err client.NoMemory;
  shows = record { told = of_told out.rows.old (λ rows. tt); same = left.same; later = left.later; cause = λ is. absurd cc };
  says = (left.sink, said);
}

-- a command whose rows weren't opened did so
does_nothing : (command : Command) (out : Outside) (note : Note) → (file_of command ≡ file.None → ⊥) → IsLeft out note → Does out command note
does_nothing (Pipe serving) out note wants left = inr (left.same, left.source, left.sink, left.words, inl (not_opened out.rows note left.unopened))
does_nothing (Grant scopes) out note wants left = (left.source, inr (left.same, left.sink, inl (left.words, not_opened out.rows note left.unopened)))
does_nothing (Revoke token) out note wants left = (left.source, left.words, inr (left.same, left.sink, inl (not_opened out.rows note left.unopened)))
does_nothing (Connect root token scopes) out note wants left = (left.source, left.words, connects_not root token scopes out note left left.unopened)
does_nothing (Put document kind) out note wants left = (left.words, puts_not document.path kind out note left left.unopened)
does_nothing (Get document) out note wants left = (left.source, left.words, shows_not (shown_document document.path) out note left left.unopened)
does_nothing (Remove document) out note wants left = (
  left.source,
  left.words,
  adds_not (λ s. remove_refusal s document.path) (event.Edit document.path change.Remove) (codes "removed") out note left left.unopened,
)
does_nothing (ListFolder folder) out note wants left = (left.source, left.words, shows_not (shown_listing folder.path) out note left left.unopened)
does_nothing Status out note wants left = (left.source, left.words, shows_not shown_summary out note left left.unopened)
does_nothing Conflicts out note wants left = (left.source, left.words, shows_not shown_conflicts out note left left.unopened)
does_nothing (Resolve n how) out note wants left = (
  left.source,
  left.words,
  adds_not (λ s. resolve_refusal s n how) (event.Resolved n how) (codes "resolved") out note left left.unopened,
)
does_nothing Help out note wants left = absurd (wants refl)
does_nothing Version out note wants left = absurd (wants refl)

pub ends_unopened : (command : Command) (words : List (List ℕ)) (out : Outside) (note : Note) → (file_of command ≡ file.None → ⊥)
    → ReadsCommand (Ok command) words → IsLeft out note → Runs out words note
ends_unopened command words out note wants reads left =
    inl (record { command = command; right = reads.0; asked = reads.1; done = does_nothing command out note wants left })

-- ---- which rows

-- the name of a command says which rows it wants
pub wanted_is : (command : Command) (words : List (List ℕ)) → AsksFor command words → file_of command ≡ file_wanted words
wanted_is (Pipe serving) words asks = sym (ap file_wanted asks.are)
wanted_is (Grant scopes) words asks = sym (ap file_wanted asks.are)
wanted_is (Revoke token) words asks = sym (ap file_wanted asks.are)
wanted_is (Connect root token scopes) words asks = sym (ap file_wanted asks.are)
wanted_is (Put document kind) words asks = sym (ap file_wanted asks.are)
wanted_is (Get document) words asks = sym (ap file_wanted asks.are)
wanted_is (Remove document) words asks = sym (ap file_wanted asks.are)
wanted_is (ListFolder folder) words asks = sym (ap file_wanted asks.are)
wanted_is Status words asks = sym (ap file_wanted asks)
wanted_is Conflicts words asks = sym (ap file_wanted asks)
wanted_is (Resolve n how) words asks = sym (ap file_wanted asks.are)
wanted_is Help words asks = sym (ap file_wanted asks)
wanted_is Version words asks = sym (ap file_wanted asks)

-- what was done over the rows that the command wants was done over those that the words want
pub runs_wanted : (user journal : Course (List (List ℕ))) (drawn source sink wants : Course (List ℕ)) (command : Command) (words : List (List ℕ)) (note : Note)
    → ReadsCommand (Ok command) words
    → Runs (record { rows = rows_for (file_of command) user journal; words = drawn; source = source; sink = sink; wants = wants }) words note
    → Runs (record { rows = rows_for (file_wanted words) user journal; words = drawn; source = source; sink = sink; wants = wants }) words note
runs_wanted user journal drawn source sink wants command words note reads runs = subst
    (λ (f : RowsFile). Runs (record { rows = rows_for f user journal; words = drawn; source = source; sink = sink; wants = wants }) words note)
    (wanted_is command words reads.1)
    runs

-- words that want no rows of a file are a command that wants none
pub unwanted : (wanted : RowsFile) (command : Command) (words : List (List ℕ)) → ReadsCommand (Ok command) words → ¬ WantRows wanted words
    → file_of command ≡ wanted → ⊥
unwanted wanted command words reads not is = not (record { command = command; right = reads.0; asked = reads.1; wants = is })
