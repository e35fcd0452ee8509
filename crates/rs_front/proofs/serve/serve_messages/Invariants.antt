use Rattle.std.proofs.Common.{◌+◌, ◌*◌, ◌≤◌}
use Rattle.rs_face.specs.Courses.{course}
use Rattle.rs_rules.specs.Desks.{ForHistories}
use Rattle.rs_request.specs.Readers.{fed_count}
use Rattle.rs_exchange.specs.Accounts.{IsAccount}
use Rattle.rs_front.specs.Due.{users_of_desk}
use Rattle.rs_front.specs.Inputs.{most_read, IsBetween}
use Rattle.rs_front.proofs.ServeLemmas.{SoFar}
use Rattle.rs_front.proofs.serve.serve_messages.Given as goal

abbrev pub invariant-serving : goal.invariant-serving
invariant-serving g l = record {
  so_far : ForHistories (IsAccount l.config.accounts) (g.D.Desk.stands l.fn.desk) (g.D.Desk.stands l.desk) (λ old now.
      SoFar (users_of_desk g.D.Desk.quota g.D.Desk.me g.D.Desk.alone l.fn.desk now) l.config
      (course g.S.Source.left g.S.Source.faults l.fn.source l.source)
      (course g.W.Sink.written g.W.Sink.faults l.fn.sink l.sink)
      (course g.W.Sink.written g.W.Sink.wants l.fn.sink l.sink)
      (course g.E.Entropy.words g.E.Entropy.faults l.fn.entropy l.entropy)
      old (g.D.Desk.faults l.fn.desk) (g.D.Desk.faults l.desk) l.reader l.count);
  between : IsBetween l.reader;
  near : fed_count l.reader ≤ l.count * (most_read + most_read);
  is_later : g.D.Desk.is_later l.fn.desk l.desk;
}
