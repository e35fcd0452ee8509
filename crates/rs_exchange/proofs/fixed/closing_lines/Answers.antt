use Rattle.std.proofs.Common.{[], ◌∷◌}
use Rattle.rs_exchange.specs.FixedReplies.{empty_field, closing_bytes}
use Rattle.rs_exchange.specs.Replies.{origin_field, exposed_field, close_field}
use Rattle.rs_exchange.proofs.PartLemmas.{fixed_text}
use Rattle.rs_exchange.proofs.fixed.closing_lines.Goals as goal

pub returns : goal.returns
unfolding closing_bytes
returns c = record { lines = fixed_text c.args.status (origin_field ∷ exposed_field ∷ empty_field ∷ close_field ∷ []) }
