use Rattle.std.proofs.Common.{◌∙◌}
use Rattle.rs_talk.proofs.AskLemmas.{head_is, six_parts}
use Rattle.rs_talk.proofs.encode.ask_head.Goals as goal

pub returns-clause-head : goal.returns-clause-head
returns-clause-head c =
    six_parts c.new-head.result.items c.put_request_line.new.out.items c.put_sender.new.out.items c.put_kind.new.out.items
    c.put_condition.new.out.items c.put_length.new.out.items c.put_close.new.out.items _ _ _ _ _ _
    c.new-head.ensures.items c.in_ok-put_request_line.ensures.put c.in_ok-put_sender.ensures.put c.in_ok-put_kind.ensures.put
    c.in_ok-put_condition.ensures.put c.in_ok-put_length.ensures.put c.in_ok-put_close.ensures.put
    ∙ head_is c.args.root.now c.args.token.now c.args.ask.now
