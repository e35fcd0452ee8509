use Rattle.std.proofs.Common.{sym, arith}
use Rattle.std.proofs.lemmas.List.{take_rest}
use Rattle.rs_scope.proofs.ReadingLemmas.{scopes_text-first}
use Rattle.rs_scope.proofs.scopes.text_of.Goals as goal

pub returns : goal.returns
returns c =
    rw (c.in_ok-push_others.ensures, c.in_ok-push_scope.ensures, c.new-text.ensures.items, take_rest)
    (sym (scopes_text-first c.args.scopes.now c.first-item.result (omega arith) c.first-item.is))
