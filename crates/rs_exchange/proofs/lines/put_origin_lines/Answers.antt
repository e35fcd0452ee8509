use Rattle.rs_exchange.specs.Replies.{origin_field, exposed_field}
use Rattle.rs_exchange.proofs.PartLemmas.{two_lines}
use Rattle.rs_exchange.proofs.lines.put_origin_lines.Goals as goal

pub returns-clause-put : goal.returns-clause-put
returns-clause-put c =
    two_lines c.args.out.now.items c.put_text.new.out.items c.put_text-2.new.out.items origin_field exposed_field
    c.in_ok-put_text.ensures.put c.in_ok-put_text-2.ensures.put
