use Rattle.std.proofs.Common.{[], ◌∷◌}
use Rattle.rs_exchange.specs.FixedReplies.{empty_field, starved_bytes}
use Rattle.rs_exchange.specs.Replies.{origin_field, close_field}
use Rattle.rs_exchange.proofs.PartLemmas.{fixed_text}
use Rattle.rs_exchange.proofs.fixed.starved_lines.Goals as goal

pub returns-then-closing : goal.returns-then-closing
unfolding starved_bytes
returns-then-closing c = rw c.if-closing.true (record { lines = fixed_text 503 (origin_field ∷ empty_field ∷ close_field ∷ []) })

pub returns-else-closing : goal.returns-else-closing
unfolding starved_bytes
returns-else-closing c = rw c.if-closing.false (record { lines = fixed_text 503 (origin_field ∷ empty_field ∷ []) })
