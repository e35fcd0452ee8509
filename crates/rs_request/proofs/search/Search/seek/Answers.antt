use Rattle.std.proofs.Common.{◌≡◌, ◌-◌, ◌<◌, length, take, drop, Option, Some, sym, ap, ◌∙◌, subst, arith}
use Rattle.std.specs.Prelude.{IfNone, IfSome}
use Rattle.std.proofs.lemmas.List.{take_all, take_rest}
use Rattle.rs_request.specs.declared.search.Spot.{Spot}
use Rattle.rs_request.specs.Lines.{first_empty_line, spot_after}
use Rattle.rs_request.proofs.LinesLemmas.{spot_after_place, empty_line_place, empty_line_none}
use Rattle.rs_request.proofs.search.Search.seek.Goals as goal

pub loop-at-preserved : goal.loop-at-preserved
loop-at-preserved c start sought =
    let xs = c.args.bytes.now in
    let s = c.loop-at.spot in
    let at = c.loop-at.at in
    let n = c.past-count.result.0 in
    let rest = take (length xs - at) (drop at xs) in
    let goes = subst (λ (o : Option Spot). IfSome o (λ next. spot_after s (take n rest) ≡ Some next)) c.in-Some.is c.past-count.ensures.goes in
    spot_after_place start s c.in-Some.next xs rest at n (take_rest xs at) (c.loop-at.invariant start sought) goes

pub returns-in-None-clause-found : goal.returns-in-None-clause-found
returns-in-None-clause-found c start sought =
    let xs = c.args.bytes.now in
    let s = c.loop-at.spot in
    let at = c.loop-at.at in
    let n = c.past-count.result.0 in
    let inside : at < length xs = c.loop-at-test.true in
    let rest = take (length xs - at) (drop at xs) in
    let ends = subst (λ (o : Option Spot). IfNone o (first_empty_line s rest ≡ Some n)) c.in-None.is c.past-count.ensures.ends in
    sym (empty_line_place start s xs rest at n (take_rest xs at) (omega arith) (c.loop-at.invariant start sought) ends)

pub returns-clause-found : goal.returns-clause-found
returns-clause-found c start sought =
    let xs = c.args.bytes.now in
    let all = take_all c.loop-at.at xs c.loop-at-test.false in
    sym (empty_line_none start c.loop-at.spot xs (ap (spot_after start) (sym all) ∙ c.loop-at.invariant start sought))
