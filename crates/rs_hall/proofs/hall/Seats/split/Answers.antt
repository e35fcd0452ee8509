use Rattle.std.proofs.Common.{rules, ◌≡◌, ◌<◌, get_or, length, arith, refl, ap, sym, ◌∙◌, subst}
use Rattle.std.proofs.Math.ListN.{set}
use Rattle.rs_hall.specs.Splits.{SplitRefuses, split_fault_of}
use Rattle.rs_hall.proofs.SplitLemmas.{all_know, known_locks, none_split_yet, split_known, split_locks, splits_all, splits_full, splits_more}
use Rattle.rs_hall.proofs.hall.Seats.split.Goals as goal

pub returns-in_err-each-clause-known : goal.returns-in_err-each-clause-known
returns-in_err-each-clause-known g c = all_know c.args.self.now.each.items

pub loop-place-init : goal.loop-place-init
loop-place-init g c =
    (none_split_yet c.args.hall.now.locks.items c.args.self.now.each.items c.in_ok-each.each.items c.requires.own c.in_ok-each.ensures.items, search rules)

pub loop-place-preserved : goal.loop-place-preserved
loop-place-preserved g c =
    let news = c.loop-place.self.each.items in
    let f = c.index_mut.result.now in
    let is : f ≡ get_or news c.loop-place.place f = search rules in
    let few : c.loop-place.place < length c.args.self.now.each.items =
    omega (arith, c.loop-place-test.true, c.len-place-end.ensures, c.args.self.now.each.ok.0) in (
      splits_more c.args.hall.now.locks.items c.args.self.now.each.items news c.loop-place.each.items c.push.new.self.items c.loop-place.place f c.seat.new.from
          c.in-Ok.seat c.requires.own c.loop-place.invariant.0 c.in_ok-push-in-Ok.ensures.items few is
          (record { same = c.seat.ensures.from.0; more = c.seat.ensures.from.1 }) c.in-Ok.ensures.seat,
      omega (arith, c.loop-place.invariant.1, c.in_ok-push-in-Ok.ensures.capacity),
    )

pub returns-in-Err-clause-known : goal.returns-in-Err-clause-known
returns-in-Err-clause-known g c =
    let news = c.loop-place.self.each.items in
    let f = c.index_mut.result.now in
    let is : f ≡ get_or news c.loop-place.place f = search rules in
    let few : c.loop-place.place < length c.args.self.now.each.items =
    omega (arith, c.loop-place-test.true, c.len-place-end.ensures, c.args.self.now.each.ok.0) in
    (splits_full c.args.hall.now.locks.items c.args.self.now.each.items news c.loop-place.each.items c.loop-place.place c.seat.new.from.made f c.seat.new.from
    c.loop-place.invariant.0 few is (record { same = c.seat.ensures.from.0; more = c.seat.ensures.from.1 }) refl c.in-Err.ensures.full.1).0

pub returns-in-Err-clause-own : goal.returns-in-Err-clause-own
returns-in-Err-clause-own g c =
    let news = c.loop-place.self.each.items in
    let f = c.index_mut.result.now in
    let is : f ≡ get_or news c.loop-place.place f = search rules in
    let few : c.loop-place.place < length c.args.self.now.each.items =
    omega (arith, c.loop-place-test.true, c.len-place-end.ensures, c.args.self.now.each.ok.0) in
    known_locks (splits_full c.args.hall.now.locks.items c.args.self.now.each.items news c.loop-place.each.items c.loop-place.place c.seat.new.from.made f
    c.seat.new.from c.loop-place.invariant.0 few is (record { same = c.seat.ensures.from.0; more = c.seat.ensures.from.1 }) refl
    c.in-Err.ensures.full.1).0 ∙ c.requires.own

pub returns-in-Err-clause-refused : goal.returns-in-Err-clause-refused
returns-in-Err-clause-refused g c =
    let olds = c.args.self.now.each.items in
    let news = c.loop-place.self.each.items in
    let f = c.index_mut.result.now in
    let is : f ≡ get_or news c.loop-place.place f = search rules in
    let few : c.loop-place.place < length olds =
    omega (arith, c.loop-place-test.true, c.len-place-end.ensures, c.args.self.now.each.ok.0) in
    subst (λ fault. SplitRefuses fault olds (set news c.loop-place.place c.seat.new.from))
    (sym (c.handed_on.ensures ∙ ap split_fault_of c.in-Err.ensures.full.0))
    (splits_full c.args.hall.now.locks.items olds news c.loop-place.each.items c.loop-place.place c.seat.new.from.made f c.seat.new.from
    c.loop-place.invariant.0 few is (record { same = c.seat.ensures.from.0; more = c.seat.ensures.from.1 }) refl c.in-Err.ensures.full.1).1

pub returns-clause-known : goal.returns-clause-known
returns-clause-known g c = split_known c.loop-place.invariant.0.front

pub returns-clause-split : goal.returns-clause-split
returns-clause-split g c =
    splits_all c.args.hall.now.locks.items c.args.self.now.each.items c.loop-place.self.each.items c.loop-place.each.items c.loop-place.place
    c.loop-place.invariant.0 (omega (arith, c.loop-place-test.false, c.len-place-end.ensures, c.args.self.now.each.ok.0))
    (omega (arith, c.loop-place.auto.place-end, c.len-place-end.ensures, c.args.self.now.each.ok.0))

pub returns-clause-hall : goal.returns-clause-hall
returns-clause-hall g c =
    split_locks (splits_all c.args.hall.now.locks.items c.args.self.now.each.items c.loop-place.self.each.items c.loop-place.each.items c.loop-place.place
    c.loop-place.invariant.0 (omega (arith, c.loop-place-test.false, c.len-place-end.ensures, c.args.self.now.each.ok.0))
    (omega (arith, c.loop-place.auto.place-end, c.len-place-end.ensures, c.args.self.now.each.ok.0))) ∙ c.requires.own
