use Rattle.std.proofs.Common.{◌++◌, true, false, subst}
use Rattle.std.specs.Io.KnownBytes.{Appends}
use Rattle.rs_face.specs.Told.{AppendsFront}
use Rattle.rs_front.proofs.InputLemmas.{laws_of, reads_plain, reads_unwritten, came_some, reads_told}
use Rattle.rs_front.proofs.input.next_message.Goals as goal

pub returns-in-Some-clause-reads : goal.returns-in-Some-clause-reads
returns-in-Some-clause-reads g c = λ place bytes stands.
    reads_plain (laws_of c.unfinished_requests.ensures.interim_stays c.unfinished_requests.ensures.told c.unfinished_requests.ensures.begun c.taken_requests.ensures.one c.taken_requests.ensures.spelled) place bytes _ _ _ _ _ c.in-Some.next
    (c.in-Some.ensures.reads place bytes false stands)

pub returns-in-Err-clause-reads : goal.returns-in-Err-clause-reads
returns-in-Err-clause-reads g c = λ place bytes stands.
    let due = c.in_default.ensures.reads place bytes false stands in
    reads_unwritten place bytes _ _ _ _ c.in-Err.fault due
    (subst (AppendsFront (g.W.Sink.written c.args.sink.now) (g.W.Sink.written c.send_fixed.new.sink)) c.interim_lines.ensures.lines c.in-Err.ensures.writes)
    c.in-Err.ensures.cause c.in-Err.ensures.want

pub returns-clause-reads : goal.returns-clause-reads
returns-clause-reads g c = λ place bytes stands.
    let due = c.in_default.ensures.reads place bytes false stands in
    reads_told (laws_of c.unfinished_requests.ensures.interim_stays c.unfinished_requests.ensures.told c.unfinished_requests.ensures.begun c.taken_requests.ensures.one c.taken_requests.ensures.spelled) place bytes _ _ _ _ _ _ _ c.unwrap.result
    c.read_on.ensures.later
    (subst (Appends (g.W.Sink.written c.args.sink.now) (g.W.Sink.written c.send_fixed.new.sink)) c.interim_lines.ensures.lines c.in_default-send_fixed.ensures.writes)
    due (came_some place (bytes ++ due.read) _ _ c.read_on-2.result c.unwrap.result c.unwrap.ensures (c.read_on-2.ensures.reads place (bytes ++ due.read) true due.comes.1))
