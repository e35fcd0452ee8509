-- What is decided on a storage request.
use Rattle.std.specs.Prelude.{◌≡◌, ◌+◌, None}
use Rattle.rs_rules.specs.declared.call.Call.{Call}
use Rattle.rs_rules.specs.declared.reply.Reply.{Reply}
use Rattle.rs_rules.specs.declared.reply.Reply.TheVariants.{Stored, Removed}
use Rattle.rs_rules.specs.Snapshots.{Snapshot}
use Rattle.rs_rules.specs.Answers.{record_of_call}
use Rattle.rs_user.specs.declared.decision.Decision.{Decision}
use Rattle.rs_user.specs.declared.decision.Decision.TheVariants.{Answer, Put, Remove}

-- the decision agrees with this answer: a reply that adds no record, or a write that it tells of
abbrev pub DecisionAgrees : Snapshot → Call → Reply → Decision → Type 0
DecisionAgrees s c answer (Answer reply) = (answer ≡ reply) × (record_of_call c reply ≡ None)
DecisionAgrees s c answer (Put created) = answer ≡ Stored (s.len + 1) created
DecisionAgrees s c answer (Remove version) = answer ≡ Removed version
