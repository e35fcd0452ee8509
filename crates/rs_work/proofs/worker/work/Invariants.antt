use Rattle.std.proofs.Common.{◌≡◌, ◌+◌, ◌-◌, ◌^◌, ◌≤◌, map}
use Rattle.rs_face.specs.Courses.{course}
use Rattle.rs_rules.specs.Desks.{ForHistories}
use Rattle.rs_exchange.specs.Accounts.{IsAccount}
use Rattle.rs_front.specs.Due.{users_of_desk}
use Rattle.rs_work.specs.Connections.{course_of, ServesAll, Works}
use Rattle.rs_work.proofs.worker.work.Given as goal

abbrev pub invariant-serving : goal.invariant-serving
invariant-serving g l = record {
  works : Works (g.N.Listener.coming l.fn.listener) (g.N.Listener.coming l.listener) (g.N.Listener.back l.fn.listener) (g.N.Listener.back l.listener)
      l.served (λ all. ForHistories (IsAccount l.config.accounts) (g.D.Desk.stands l.fn.desk) (g.D.Desk.stands l.desk) (λ old now.
      ServesAll (users_of_desk g.D.Desk.quota g.D.Desk.me g.D.Desk.alone l.fn.desk) l.config
      (map (course_of g.N.In.Source.left g.N.In.Source.faults g.N.Out.Sink.written g.N.Out.Sink.faults g.N.Out.Sink.wants) all)
      (course g.E.Entropy.words g.E.Entropy.faults l.fn.entropy l.entropy)
      old now (g.D.Desk.faults l.fn.desk) (g.D.Desk.faults l.desk)));
  given : g.N.Listener.given l.listener ≡ g.N.Listener.given l.fn.listener + l.served;
  ends : g.N.Listener.ends l.listener ≡ g.N.Listener.ends l.fn.listener;
  faults : g.N.Listener.faults l.fn.listener ≤ g.N.Listener.faults l.listener;
  is_later : g.D.Desk.is_later l.fn.desk l.desk;
}

-- a listener gives fewer than 2^64 connections
abbrev pub decreases-serving : goal.decreases-serving
decreases-serving g l = 2 ^ 64 - g.N.Listener.given l.listener
