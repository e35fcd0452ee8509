use Rattle.std.proofs.Common.{sym}
use Rattle.rs_user.proofs.FrontLemmas.{clash_bound, document_named}
use Rattle.rs_user.proofs.place.refused_clash.Goals as goal

pub clash_at-requires-clause-some : goal.clash_at-requires-clause-some
clash_at-requires-clause-some g c =
    let stands = c.requires.stands in
    let named = document_named c.args.call.now.path c.requires.document c.names-names.ensures.path in
    (clash_bound stands.0.docs c.args.call.now.path c.in-Some.count named (sym (c.in-Some.ensures.clash stands.0 stands.1))).0

pub clash_at-requires-clause-few : goal.clash_at-requires-clause-few
clash_at-requires-clause-few g c =
    let stands = c.requires.stands in
    let named = document_named c.args.call.now.path c.requires.document c.names-names.ensures.path in
    (clash_bound stands.0.docs c.args.call.now.path c.in-Some.count named (sym (c.in-Some.ensures.clash stands.0 stands.1))).1
