use Rattle.std.proofs.Common.{arith, refl, sym, ap, ◌∙◌, [], Ok}
use Rattle.rs_face.specs.Listening.{with_first}
use Rattle.rs_front.specs.Due.{users_of_desk}
use Rattle.rs_work.proofs.WorkLemmas.{taken_none, returned_none, works_more, works_stays, gives_one, counts_one, no_end, no_fault, gives_none, none_left, gives_nothing, has_failed, none_served, holds_more, alike}
use Rattle.rs_work.proofs.worker.work.Goals as goal

pub serving-init : goal.serving-init
serving-init g c = record {
  works = record {
    all = [];
    taken = taken_none (g.N.Listener.coming c.args.listener.now);
    returned = returned_none (g.N.Listener.back c.args.listener.now);
    counted = refl;
    holds = λ old stands. (
      old,
      stands,
      none_served (users_of_desk g.D.Desk.quota g.D.Desk.me g.D.Desk.alone c.args.desk.now) c.args.config.now old _ _ _,
    );
  };
  given = omega arith;
  ends = refl;
  faults = omega arith;
  is_later = g.met.D.Desk.stays c.args.desk.now;
}

pub returns-in-Ok-None-clause-connections : goal.returns-in-Ok-None-clause-connections
returns-in-Ok-None-clause-connections g c =
    let is = c.in-Ok-None.is ∙ ap Ok c.in-Ok-None.field-0-is in
    works_stays _ _ _ _ _ _ _ _ c.serving.invariant.works (gives_none c.accept.result is _ _ c.accept.ensures.next).0 c.accept.ensures.back

pub returns-in-Ok-None-clause-ended : goal.returns-in-Ok-None-clause-ended
returns-in-Ok-None-clause-ended g c =
    let is = c.in-Ok-None.is ∙ ap Ok c.in-Ok-None.field-0-is in
    none_left c.accept.result is _ _ _ _ _ c.serving.invariant.ends c.accept.ensures.ends c.accept.ensures.next

pub returns-in-Err-Failed-clause-connections : goal.returns-in-Err-Failed-clause-connections
returns-in-Err-Failed-clause-connections g c =
    works_stays _ _ _ _ _ _ _ _ c.serving.invariant.works (gives_nothing c.accept.result _ c.in-Err-Failed.is _ _ c.accept.ensures.next) c.accept.ensures.back

pub returns-in-Err-Failed-clause-ended : goal.returns-in-Err-Failed-clause-ended
returns-in-Err-Failed-clause-ended g c =
    has_failed c.accept.result _ c.in-Err-Failed.is _ _ _ c.serving.invariant.faults c.accept.ensures.cause

pub overflow_add-served : goal.overflow_add-served
overflow_add-served g c =
    let is = c.in-Ok-Some.is ∙ ap Ok c.in-Ok-Some.field-0-is in
    let given = counts_one c.accept.result _ is _ _ c.accept.ensures.given in
    let few = c.accept.ensures.few in
    let so_far = c.serving.invariant.given in
    omega (arith, given, few, so_far)

pub serve_one-end-requires-clause-served : goal.serve_one-end-requires-clause-served
serve_one-end-requires-clause-served g c lifetimes outlive user within =
    (g.met.D.Desk.keeps _ _ c.serving.invariant.is_later).users user (c.requires.served user within)

pub serving-preserved : goal.serving-preserved
serving-preserved g c =
    let before = c.serving.invariant in
    let is = c.in-Ok-Some.is ∙ ap Ok c.in-Ok-Some.field-0-is in
    let took = c.accept.ensures in
    let one = c.serve_one-end.ensures in
    let kept = g.met.D.Desk.keeps _ _ before.is_later in
    record {
      works = works_more _ _ _ _ _ _ _ _ _ _ _ _ _ _ _ before.works one.connection
          (gives_one c.accept.result _ is _ _ took.next ∙ ap (with_first c.in-Ok-Some.connection) (sym one.coming)) took.back refl
          (λ all this so_far served. holds_more _ _ _ _ _ (g.D.Desk.stands c.args.desk.now) (g.D.Desk.stands c.serving.desk) (g.D.Desk.stands c.serve_one-end.new.desk) _ _ _ _ _ _ _ _ _
          (alike g.D.Desk.quota g.D.Desk.me g.D.Desk.alone _ _ kept.same_quota kept.same_number kept.same_alone) all this so_far served);
      given =
          let given = one.given in
          let more = counts_one c.accept.result _ is _ _ took.given in
          let so_far = before.given in
          omega (arith, given, more, so_far);
      ends = one.ends ∙ no_end c.accept.result _ is _ _ took.ends ∙ before.ends;
      faults =
          let faults = one.faults in
          let quiet = no_fault c.accept.result _ is _ _ took.quiet in
          let so_far = before.faults in
          omega (arith, faults, quiet, so_far);
      is_later = g.met.D.Desk.goes_on _ _ _ before.is_later one.is_later;
    }
