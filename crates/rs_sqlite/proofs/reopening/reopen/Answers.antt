use Rattle.std.proofs.Common.{inl, sym, subst}
use Rattle.sqlite.specs.Files.{over_files, file_state}
use Rattle.sqlite.specs.State.{HasCleanDisk}
use Rattle.rs_sqlite.specs.Keeping.{KeepsRows}
use Rattle.rs_sqlite.specs.Tables.{HoldsRows, IsOpenedAs}
use Rattle.rs_sqlite.proofs.ReopeningLemmas.{holds_again, if_clean}
use Rattle.rs_sqlite.proofs.reopening.reopen.Goals as goal

pub returns : goal.returns
returns g c = record {
  rows = λ rows keeps.
      let old = c.into_connection.result in
      let new = c.in_ok-reconnect.field-0 in
      let holds = subst (λ it. HoldsRows (file_state it) rows) (sym c.into_connection.ensures.same) keeps.holds in
      if_clean c.open.result (λ again. HasCleanDisk (file_state again.connection)) (λ again. KeepsRows over_files again rows) (HasCleanDisk (file_state new)) (IsOpenedAs (file_state new) rows)
      c.open.ensures.clean
      (λ clean.
      let opened = c.in_ok-reconnect.ensures.opened clean in
      inl (holds_again (file_state old) (file_state new) rows holds c.reconnect.ensures.live opened.0 opened.1 (c.in_ok-reconnect.ensures.same clean)))
      (c.open.ensures.rows rows);
}
