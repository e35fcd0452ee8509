use Rattle.std.proofs.Common.{◌≡◌, ◌+◌, Some, [], ◌∷◌, ◌++◌, length, subst, OnOk, is_ok, if◌then◌else◌}
use Rattle.sqlite.specs.Held.{state}
use Rattle.rs_sqlite.specs.Keeping.{Keeping}
use Rattle.rs_sqlite.specs.Tables.{rows_in}
use Rattle.rs_sqlite.proofs.TellingLemmas.{append_keeps, append_tells, append_counts}
use Rattle.rs_sqlite.proofs.telling_keeper.TellingKeeperKeeper.append.Goals as goal

pub invariant_of-self : goal.invariant_of-self
invariant_of-self g c =
    let old = c.self.inside.keeper in
    let new = c.append.new.self in
    let told = rows_in (state g.S.Store old.connection).now.trees in
    append_keeps g.S.Store old new c.args.row.now c.self.invariant _ c.append.result (c.append.ensures.stop told c.self.invariant) (g.met.S.Steadfast.clean new.connection.store)
    (g.met.S.Steadfast.faultless new.connection.store) (c.append.ensures.appended told c.self.invariant (g.met.S.Steadfast.clean new.connection.store))
    (c.append.ensures.refused told c.self.invariant (g.met.S.Steadfast.clean new.connection.store))

pub returns-clause-ok : goal.returns-clause-ok
returns-clause-ok g c =
    let old = c.self.inside.keeper in
    let new = c.append.new.self in
    let told = rows_in (state g.S.Store old.connection).now.trees in
    subst (λ (k : Keeping g.row.S.Denot). OnOk c.append.result (Some (rows_in (state g.S.Store new.connection).now.trees) ≡ Some (rows_in (state g.S.Store k.connection).now.trees ++ c.args.row.now ∷ [])))
    c.self.view_is
    (append_tells g.S.Store old new c.args.row.now c.self.invariant c.append.result (c.append.ensures.appended told c.self.invariant (g.met.S.Steadfast.clean new.connection.store)))

pub returns-clause-len : goal.returns-clause-len
returns-clause-len g c =
    let old = c.self.inside.keeper in
    let new = c.append.new.self in
    let many = length (rows_in (state g.S.Store new.connection).now.trees) in
    subst (λ (k : Keeping g.row.S.Denot). many
    ≡ (if is_ok c.append.result then length (rows_in (state g.S.Store k.connection).now.trees) + 1 else length (rows_in (state g.S.Store k.connection).now.trees))) c.self.view_is
    (append_counts g.S.Store old new c.args.row.now c.self.invariant c.append.result (invariant_of-self g c) c.append.ensures.len)
