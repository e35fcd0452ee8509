use Rattle.std.proofs.Common.{◌≡◌, ℤ, pos, ◌+◌, ◌<◌, Some, [], get_or, sym, ap, subst, ◌∙◌, arith, w64, to_z, of_z}
use Rattle.std.proofs.lemmas.Option.{slice_get-get_or}
use Rattle.std.proofs.Math.Facts.{to_z-of_z}
use Rattle.sqlite.specs.Held.{state}
use Rattle.rs_sqlite.specs.Tables.{HoldsRows}
use Rattle.rs_sqlite.specs.Keeping.{Keeping}
use Rattle.rs_sqlite.proofs.sql_keeper.SqlKeeperKeeper.read.Goals as goal

pub number_of-requires : goal.number_of-requires
number_of-requires g c =
    let below : c.args.i < c.args.self.now.rows = c.requires in
    let few = c.self.invariant in
    let same = ap (λ (k : Keeping g.row.S.Denot). k.rows) c.self.view_is in
    omega (arith, below, few, same)

pub returns-in-Ok-clause-row : goal.returns-in-Ok-clause-row
returns-in-Ok-clause-row g c rows keeps clean =
    let holds = subst (λ (k : Keeping g.row.S.Denot). HoldsRows (state g.S.Store k.connection) rows) (sym c.self.view_is) keeps.holds in
    let below : c.args.i < c.args.self.now.rows = c.requires in
    let many = keeps.counts in
    let few = holds.few in
    let there = slice_get-get_or rows c.args.i [] (omega (arith, below, many)) in
    let small : 1 + c.args.i < 9223372036854775808 = omega (arith, below, many, few) in
    let number = subst (λ (z : ℤ). to_z w64 (of_z w64 z) ≡ pos (1 + c.args.i)) (sym c.number_of.ensures) (to_z-of_z {w = w64} {z = pos (1 + c.args.i)} (record { sfits = small })) in
    there ∙ ap Some (sym (c.in-Ok.ensures.row rows c.args.i (get_or rows c.args.i []) holds number there clean))
