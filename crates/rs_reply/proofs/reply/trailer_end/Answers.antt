use Rattle.std.proofs.Common.{◌-◌, length, take, drop, sym, ap, ◌∙◌, arith}
use Rattle.std.proofs.lemmas.List.{length-take, length-drop}
use Rattle.rs_request.specs.declared.search.Spot.TheVariants.{Fresh}
use Rattle.rs_request.specs.Limits.{max_trailer}
use Rattle.rs_reply.proofs.ReplySteps.{rest_all, sought_front, trailer_short, trailer_full, trailer_whole}
use Rattle.rs_reply.proofs.reply.trailer_end.Goals as goal

pub returns-in-Some-clause-found : goal.returns-in-Some-clause-found
returns-in-Some-clause-found c =
    let left = take max_trailer (drop c.args.at c.args.bytes.now) in
    let found = sought_front Fresh c.window-window.result.now left c.from-search.result c.seek.result (c.window-window.ensures.front ∙ ap (take max_trailer) (rest_all c.args.bytes.now c.args.at)) c.from-search.ensures c.seek.ensures.found ∙ c.in-Some.is in
    sym (trailer_whole c.args.bytes.now c.args.at c.in-Some.count found)

pub returns-in-None-clause-found : goal.returns-in-None-clause-found
returns-in-None-clause-found c =
    let left = take max_trailer (drop c.args.at c.args.bytes.now) in
    let found = sought_front Fresh c.window-window.result.now left c.from-search.result c.seek.result (c.window-window.ensures.front ∙ ap (take max_trailer) (rest_all c.args.bytes.now c.args.at)) c.from-search.ensures c.seek.ensures.found ∙ c.in-None.is in
    sym (trailer_short c.args.bytes.now c.args.at found (omega (arith, c.if-rest-lt-MAX_TRAILER.true, length-drop c.args.at c.args.bytes.now, length-take (length c.args.bytes.now - c.args.at) (drop c.args.at c.args.bytes.now))))

pub returns-in-None-2-clause-found : goal.returns-in-None-2-clause-found
returns-in-None-2-clause-found c =
    let left = take max_trailer (drop c.args.at c.args.bytes.now) in
    let found = sought_front Fresh c.window-window.result.now left c.from-search.result c.seek.result (c.window-window.ensures.front ∙ ap (take max_trailer) (rest_all c.args.bytes.now c.args.at)) c.from-search.ensures c.seek.ensures.found ∙ c.in-None.is in
    sym (trailer_full c.args.bytes.now c.args.at found (omega (arith, c.if-rest-lt-MAX_TRAILER.false, length-drop c.args.at c.args.bytes.now, length-take (length c.args.bytes.now - c.args.at) (drop c.args.at c.args.bytes.now))))
