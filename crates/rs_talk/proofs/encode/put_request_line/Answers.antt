use Rattle.std.proofs.Common.{ℕ, List, ◌++◌, ap, ◌∙◌}
use Rattle.rs_talk.proofs.AskLemmas.{start_put}
use Rattle.rs_talk.proofs.encode.put_request_line.Goals as goal

pub returns-clause-put : goal.returns-clause-put
returns-clause-put c =
    start_put c.args.root.now c.args.ask.now c.args.out.now.items c.put_text.new.out.items c.put_text-2.new.out.items c.put_target.new.out.items c.put_text-3.new.out.items
    (c.in_ok-put_text.ensures.put ∙ ap (λ (text : List ℕ). c.args.out.now.items ++ text) c.method.ensures.method) c.in_ok-put_text-2.ensures.put c.in_ok-put_target.ensures.put c.in_ok-put_text-3.ensures.put
