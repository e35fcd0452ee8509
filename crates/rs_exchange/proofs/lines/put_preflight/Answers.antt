use Rattle.std.proofs.Common.{codes}
use Rattle.rs_exchange.specs.Replies.{named_field}
use Rattle.rs_exchange.proofs.PartLemmas.{three_lines}
use Rattle.rs_exchange.proofs.lines.put_preflight.Goals as goal

pub returns-clause-put : goal.returns-clause-put
returns-clause-put c =
    three_lines c.args.out.now.items c.put_text.new.out.items c.put_text-2.new.out.items c.put_text-3.new.out.items
    (named_field (codes "Access-Control-Allow-Methods") (codes "GET, HEAD, PUT, DELETE, OPTIONS"))
    (named_field (codes "Access-Control-Allow-Headers") (codes "Authorization, Content-Type, Content-Length, If-Match, If-None-Match, Origin"))
    (named_field (codes "Access-Control-Max-Age") (codes "7200"))
    c.in_ok-put_text.ensures.put c.in_ok-put_text-2.ensures.put c.in_ok-put_text-3.ensures.put
