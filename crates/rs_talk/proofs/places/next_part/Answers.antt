use Rattle.std.proofs.Common.{sym, ap, ◌∙◌}
use Rattle.rs_talk.specs.Places.{last_part}
use Rattle.rs_talk.proofs.PlaceLemmas.{no_line, last_alone, last_behind, sought, rest_all}
use Rattle.rs_request.specs.declared.search.Spot.TheVariants.{Before}
use Rattle.rs_talk.proofs.places.next_part.Goals as goal

pub returns-in_default-clause-last : goal.returns-in_default-clause-last
returns-in_default-clause-last c =
    let heads = c.args.heads.now in
    no_line Before heads heads (sought c.from-search.result heads c.seek.result _ c.from-search.ensures c.seek.ensures.found c.in_default.is)

pub returns-then-count-heads-clause-last : goal.returns-then-count-heads-clause-last
returns-then-count-heads-clause-last c =
    let heads = c.args.heads.now in
    last_alone heads c.in-Some.count (sought c.from-search.result heads c.seek.result _ c.from-search.ensures c.seek.ensures.found c.in-Some.is) c.if-count-heads.true

pub returns-clause-next : goal.returns-clause-next
returns-clause-next c =
    let heads = c.args.heads.now in
    last_behind heads c.in-Some.count (sought c.from-search.result heads c.seek.result _ c.from-search.ensures c.seek.ensures.found c.in-Some.is)
    c.in-Some.ensures.within.1 c.if-count-heads.false
    ∙ ap last_part (sym (rest_all heads c.in-Some.count))
