use Rattle.std.proofs.Common.{rules, ◌≡◌, ◌+◌, ◌<◌, List, get_or, length, arith, refl, sym, subst}
use Rattle.std.proofs.Math.ListN.{set}
use Rattle.rs_user.specs.declared.state.UserState.{UserState}
use Rattle.rs_hall.specs.Entrances.{HallRefuses}
use Rattle.rs_hall.proofs.AbreastLemmas.{pair_lengths}
use Rattle.rs_hall.proofs.EntranceLemmas.{OpensSoFar, none_opened, opens_all, opens_more, opens_not}
use Rattle.rs_hall.proofs.opening.open_states.Goals as goal

pub loop-place-init : goal.loop-place-init
loop-place-init g c =
    subst (λ (states : List (UserState g.row.T.Denot g.row.T-Ready.Denot)). OpensSoFar g.T.Tree.stands g.K.Keeper.rows g.K.Keeper.row_count g.K.Keeper.faults
    c.args.quotas.now c.args.keepers.now.items c.args.keepers.now.items states 0) (sym c.in_ok-states.ensures.items)
    (none_opened g.T.Tree.stands g.K.Keeper.rows g.K.Keeper.row_count g.K.Keeper.faults c.args.quotas.now c.args.keepers.now.items)

pub index_mut-requires : goal.index_mut-requires
index_mut-requires g c =
    let same = pair_lengths c.loop-place.invariant.kept in
    omega (arith, same, c.requires.each, c.loop-place.keepers.ok.0, c.loop-place-test.true)

pub returns-in-Err-clause-refused : goal.returns-in-Err-clause-refused
returns-in-Err-clause-refused g c =
    let now = c.loop-place.keepers.items in
    let k = c.index_mut.result.now in
    let is : k ≡ get_or now c.loop-place.place k = search rules in
    let few : c.loop-place.place < length c.args.quotas.now = omega (arith, c.loop-place-test.true) in
    subst (λ fault. HallRefuses g.K.Keeper.rows g.K.Keeper.row_count g.K.Keeper.faults fault c.args.keepers.now.items
    (set now c.loop-place.place c.open.new.keeper)) (sym c.refusal.ensures)
    (opens_not g.T.Tree.stands g.K.Keeper.rows g.K.Keeper.row_count g.K.Keeper.faults c.args.quotas.now c.args.keepers.now.items now c.loop-place.states.items
    c.loop-place.place k c.open.new.keeper c.in-Err.fault c.loop-place.invariant c.requires.each few is
    (record { rows_stay = c.open.ensures.rows; as_many = c.open.ensures.len; no_fewer = c.open.ensures.cause.later }) c.in-Err.ensures.opened c.in-Err.ensures.cause)

pub loop-place-preserved : goal.loop-place-preserved
loop-place-preserved g c =
    let now = c.loop-place.keepers.items in
    let k = c.index_mut.result.now in
    let is : k ≡ get_or now c.loop-place.place k = search rules in
    let few : c.loop-place.place < length c.args.quotas.now = omega (arith, c.loop-place-test.true) in
    subst (λ (states : List (UserState g.row.T.Denot g.row.T-Ready.Denot)). OpensSoFar g.T.Tree.stands g.K.Keeper.rows g.K.Keeper.row_count g.K.Keeper.faults
    c.args.quotas.now c.args.keepers.now.items (set now c.loop-place.place c.open.new.keeper) states (c.loop-place.place + 1)) (sym c.in_ok-push-in-Ok.ensures.items)
    (opens_more g.T.Tree.stands g.K.Keeper.rows g.K.Keeper.row_count g.K.Keeper.faults c.args.quotas.now c.args.keepers.now.items now c.loop-place.states.items
    c.loop-place.place (get_or c.args.quotas.now c.loop-place.place 0) k c.open.new.keeper c.in-Ok.state c.loop-place.invariant c.requires.each few is refl
    (record { rows_stay = c.open.ensures.rows; as_many = c.open.ensures.len; no_fewer = c.open.ensures.cause.later }) c.in-Ok.ensures.quota
    (sym c.in-Ok.ensures.count) c.in-Ok.ensures.begun)

pub returns-clause-ready : goal.returns-clause-ready
returns-clause-ready g c =
    opens_all g.T.Tree.stands g.K.Keeper.rows g.K.Keeper.row_count g.K.Keeper.faults c.args.quotas.now c.args.keepers.now.items c.loop-place.keepers.items
    c.loop-place.states.items c.loop-place.place c.loop-place.invariant c.requires.each (omega (arith, c.loop-place-test.false))
    (omega (arith, c.loop-place.auto.place-end))
