use Rattle.std.proofs.Common.{rules, OnErr}
use Rattle.std.proofs.Math.Facts.{to_z-of_z}
use Rattle.sqlite.specs.Held.{state}
use Rattle.sqlite.specs.State.{HasCleanDisk, Survives}
use Rattle.rs_sqlite.specs.Tables.{LeavesRows}
use Rattle.rs_sqlite.proofs.RunLemmas.{refused_leaves, refused_stops, taken_run, taken_leaves, taken_stops}
use Rattle.rs_sqlite.proofs.statements.fetch_run.Goals as goal

pub returns-in_err-rows-clause-holds : goal.returns-in_err-rows-clause-holds
returns-in_err-rows-clause-holds g c rows h clean =
    let new = c.query.follows.lender-at-none in
    let held = c.query.follows.holds-at-none in
    let left : OnErr c.query.result (LeavesRows (state g.S.Store new) rows) = refused_leaves g.S.Store _ c.args.connection.now new rows h c.query.result clean held in
    search rules

pub returns-in_err-rows-clause-stop : goal.returns-in_err-rows-clause-stop
returns-in_err-rows-clause-stop g c rows h =
    let new = c.query.follows.lender-at-none in
    let held = c.query.follows.holds-at-none in
    let left : OnErr c.query.result (Survives (state g.S.Store c.args.connection.now) (state g.S.Store new) (λ _. ⊥)) = refused_stops g.S.Store _ c.args.connection.now new rows h c.query.result held in
    search rules

pub returns-clause-run : goal.returns-clause-run
returns-clause-run g c rows i h is clean =
    let made = c.in_ok-rows.ensures in
    let ran = c.take_run.ensures in
    let old = c.args.connection.now in
    let mid = c.in_ok-rows.rows.conn.now in
    let new = c.take_run.new.rows.conn.now in
    let late : HasCleanDisk (state g.S.Store new) = search rules in
    taken_run g.S.Store c.args.first old mid new rows h (λ early. rw (c.params-to_sql.ensures, to_z-of_z c.ranges.first) at (made.begun early)) ran.stop late i c.take_run.result is
    (λ begun. ran.shown _ begun late) (λ holds. ran.holds rows holds late)

pub returns-clause-holds : goal.returns-clause-holds
returns-clause-holds g c rows h clean =
    let made = c.in_ok-rows.ensures in
    let ran = c.take_run.ensures in
    let old = c.args.connection.now in
    let mid = c.in_ok-rows.rows.conn.now in
    let new = c.take_run.new.rows.conn.now in
    let late : HasCleanDisk (state g.S.Store new) = search rules in
    let left : LeavesRows (state g.S.Store new) rows = taken_leaves g.S.Store c.args.first old mid new rows h (λ early. rw (c.params-to_sql.ensures, to_z-of_z c.ranges.first) at (made.begun early)) ran.stop late c.take_run.result
    (λ holds. ran.holds rows holds late) (λ holds. ran.leaves rows holds late) in
    search rules

pub returns-clause-stop : goal.returns-clause-stop
returns-clause-stop g c rows h =
    let made = c.in_ok-rows.ensures in
    let ran = c.take_run.ensures in
    let old = c.args.connection.now in
    let mid = c.in_ok-rows.rows.conn.now in
    let new = c.take_run.new.rows.conn.now in
    let left : Survives (state g.S.Store old) (state g.S.Store new) (λ _. ⊥) = taken_stops g.S.Store _ old mid new rows h made.survives ran.stop in
    search rules
