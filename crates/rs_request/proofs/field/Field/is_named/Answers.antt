use Rattle.std.proofs.Common.{sym, ◌∙◌}
use Rattle.rs_request.proofs.NameLemmas.{two_lengths}
use Rattle.rs_request.proofs.field.Field.is_named.Goals as goal

pub returns-then-len-name : goal.returns-then-len-name
returns-then-len-name c = sym (two_lengths c.args.self.now.name c.args.name.now (λ e. c.if-len-name.true (c.len.ensures ∙ e)))
