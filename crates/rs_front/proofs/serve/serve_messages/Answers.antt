use Rattle.std.proofs.Common.{ℕ, ◌-◌, ◌++◌, List, drop, subst, [], arith}
use Rattle.rs_face.specs.Courses.{course}
use Rattle.rs_request.specs.Readings.{unfed}
use Rattle.rs_front.specs.declared.serve.End.TheVariants.{NoMemory}
use Rattle.rs_front.specs.Sending.{EndsWith}
use Rattle.rs_front.proofs.InputLemmas.{count_of, laws_of}
use Rattle.rs_front.proofs.ServeLemmas.{nothing_served, ends_closed, ends_unread, ends_unwritten, ends_bad, ends_starved, served_more, ends_asked, ends_unreplied, ends_limit, replies_as}
use Rattle.rs_front.proofs.serve.serve_messages.Goals as goal

pub serving-init : goal.serving-init
serving-init g c = record {
  so_far = λ old stands. (old, stands, nothing_served _ _ _ _ old _ _ _ _ _ _ _ _ _ c.requires.fresh);
  between = (0, [], c.requires.fresh);
  near = let none = count_of c.args.reader.now unfed c.requires.fresh in omega (arith, none);
  is_later = g.met.D.Desk.stays c.args.desk.now;
}

pub returns-in-End-clause-serves : goal.returns-in-End-clause-serves
returns-in-End-clause-serves g c old stands =
    let so_far = c.serving.invariant.so_far old stands in
    let reads = c.in-End.ensures.reads so_far.2.served.place so_far.2.served.rest so_far.2.stands in
    (so_far.0, so_far.1, ends_closed c.one_division.ensures.grows c.one_division.ensures.push _ _ _ _ _ _ _ _ _ _ _ so_far.2 c.serving-test.true _ _ _ _ _ _ reads)

pub returns-in-NotRead-clause-serves : goal.returns-in-NotRead-clause-serves
returns-in-NotRead-clause-serves g c old stands =
    let so_far = c.serving.invariant.so_far old stands in
    let reads = c.in-NotRead.ensures.reads so_far.2.served.place so_far.2.served.rest so_far.2.stands in
    (so_far.0, so_far.1, ends_unread c.one_division.ensures.grows c.one_division.ensures.push _ _ _ _ _ _ _ _ _ _ _ so_far.2 c.serving-test.true _ _ _ _ _ _ reads)

pub returns-in-NotWritten-clause-serves : goal.returns-in-NotWritten-clause-serves
returns-in-NotWritten-clause-serves g c old stands =
    let so_far = c.serving.invariant.so_far old stands in
    let reads = c.in-NotWritten.ensures.reads so_far.2.served.place so_far.2.served.rest so_far.2.stands in
    (so_far.0, so_far.1, rw c.end_of.ensures.end (ends_unwritten c.one_division.ensures.grows c.one_division.ensures.push _ _ _ _ _ _ _ _ _ _ _ so_far.2 c.serving-test.true _ _ _ _ _ _ c.in-NotWritten.fault reads))

pub returns-in-Bad-clause-serves : goal.returns-in-Bad-clause-serves
returns-in-Bad-clause-serves g c old stands =
    let so_far = c.serving.invariant.so_far old stands in
    let reads = c.in-Bad.ensures.reads so_far.2.served.place so_far.2.served.rest so_far.2.stands in
    (so_far.0, so_far.1, ends_bad c.one_division.ensures.grows c.one_division.ensures.push _ _ _ _ _ _ _ _ _ _ _ so_far.2 c.serving-test.true _ _ _ _ _ _ _ _ _ c.in-Bad.fault _ reads c.in-Bad.ensures.sink_later c.in-Bad.ensures.wants_later c.end_at_fault.ensures.ends)

pub returns-in-NoMemory-clause-serves : goal.returns-in-NoMemory-clause-serves
returns-in-NoMemory-clause-serves g c old stands =
    let so_far = c.serving.invariant.so_far old stands in
    let reads = c.in-NoMemory.ensures.reads so_far.2.served.place so_far.2.served.rest so_far.2.stands in (
      so_far.0,
      so_far.1,
      ends_starved c.one_division.ensures.grows c.one_division.ensures.push _ _ _ _ _ _ _ _ _ _ _ so_far.2 c.serving-test.true _ _ _ _ _ _ _ _ _ _ reads
          c.in-NoMemory.ensures.sink_later c.in-NoMemory.ensures.wants_later
          (subst (λ (bytes : List ℕ). EndsWith (course g.W.Sink.written g.W.Sink.faults c.next_message.new.sink c.end_with.new.sink)
          (course g.W.Sink.written g.W.Sink.wants c.next_message.new.sink c.end_with.new.sink) bytes NoMemory c.end_with.result) c.starved_lines.ensures.lines c.end_with.ensures.ends),
    )

pub returns-in-Err-clause-serves : goal.returns-in-Err-clause-serves
returns-in-Err-clause-serves g c old stands =
    let kept = g.met.D.Desk.keeps _ _ c.serving.invariant.is_later in
    let so_far = c.serving.invariant.so_far old stands in
    let reads = c.in-Message.ensures.reads so_far.2.served.place so_far.2.served.rest so_far.2.stands in
    let replied = c.in-Err.ensures.replies so_far.0 so_far.1 in
    let said = replies_as replied.0 _ _ _ _ _ _ _ _ _ _ _ _ _ _ _ kept.same_quota kept.same_number kept.same_alone replied.2 in (
      replied.0,
      replied.1,
      rw c.end_of-in-Err.ensures.end (ends_unreplied c.one_division.ensures.grows c.one_division.ensures.push _ _ _ _ _ _ _ _ _ _ _ so_far.2 c.serving-test.true
          (laws_of c.unfinished_requests.ensures.interim_stays c.unfinished_requests.ensures.told c.unfinished_requests.ensures.begun c.taken_requests.ensures.one c.taken_requests.ensures.spelled) replied.0 _ _ _ _ _ _ _ _ _ _ _ _ _ reads c.in-Err.fault said
          c.in-Err.ensures.cause c.in-Err.ensures.want c.in-Message.ensures.sink_later c.in-Message.ensures.wants_later),
    )

pub returns-then-close-clause-serves : goal.returns-then-close-clause-serves
returns-then-close-clause-serves g c old stands =
    let kept = g.met.D.Desk.keeps _ _ c.serving.invariant.is_later in
    let so_far = c.serving.invariant.so_far old stands in
    let reads = c.in-Message.ensures.reads so_far.2.served.place so_far.2.served.rest so_far.2.stands in
    let replied = c.in_default.ensures.replies so_far.0 so_far.1 in
    let said = replies_as replied.0 _ _ _ _ _ _ _ _ _ _ _ _ _ _ _ kept.same_quota kept.same_number kept.same_alone replied.2 in (
      replied.0,
      replied.1,
      ends_asked c.one_division.ensures.grows c.one_division.ensures.push _ _ _ _ _ _ _ _ _ _ _ so_far.2 c.serving-test.true
          (laws_of c.unfinished_requests.ensures.interim_stays c.unfinished_requests.ensures.told c.unfinished_requests.ensures.begun c.taken_requests.ensures.one c.taken_requests.ensures.spelled) replied.0 _ _ _ _ _ _ _ _ _ _ (g.W.Sink.wants c.reply_to.new.sink) _ _ reads _ said c.if-close.true,
    )

pub serving-preserved : goal.serving-preserved
serving-preserved g c =
    let kept = g.met.D.Desk.keeps _ _ c.serving.invariant.is_later in
    record {
      so_far = λ old stands.
          let so_far = c.serving.invariant.so_far old stands in
          let reads = c.in-Message.ensures.reads so_far.2.served.place so_far.2.served.rest so_far.2.stands in
          let replied = c.in_default.ensures.replies so_far.0 so_far.1 in
          let said = replies_as replied.0 _ _ _ _ _ _ _ _ _ _ _ _ _ _ _ kept.same_quota kept.same_number kept.same_alone replied.2 in (
            replied.0,
            replied.1,
            served_more c.one_division.ensures.grows c.one_division.ensures.push _ _ _ _ _ _ _ _ _ _ _ so_far.2 c.serving-test.true
                (laws_of c.unfinished_requests.ensures.interim_stays c.unfinished_requests.ensures.told c.unfinished_requests.ensures.begun c.taken_requests.ensures.one c.taken_requests.ensures.spelled) replied.0 _ _ _ _ _ _ _ _ _ _ _ _ _ reads _ said c.if-close.false c.in-Message.ensures.source_later
                (let a = c.in-Message.ensures.sink_later in let b = c.in_default.ensures.cause.later in omega (arith, a, b))
                (let a = c.in-Message.ensures.wants_later in let b = c.in_default.ensures.want.later in omega (arith, a, b)),
          );
      between =
          let (place, bytes, stands) = c.serving.invariant.between in
          let reads = c.in-Message.ensures.reads place bytes stands in
          (reads.comes.0, drop (reads.comes.0 - place) (bytes ++ reads.read), reads.comes.2);
      near = let before = c.serving.invariant.near in let count = c.in-Message.ensures.count in omega (arith, before, count);
      is_later = g.met.D.Desk.goes_on _ _ _ c.serving.invariant.is_later c.reply_to.ensures.is_later;
    }

pub returns-clause-serves : goal.returns-clause-serves
returns-clause-serves g c old stands =
    let so_far = c.serving.invariant.so_far old stands in
    (so_far.0, so_far.1, ends_limit _ _ _ _ _ _ _ _ _ _ _ so_far.2 (let e = c.serving.auto.count-end in let f = c.serving-test.false in omega (arith, e, f)))
