use Rattle.std.proofs.Common.{◌-◌, length, take, drop, Some, None, sym, ◌∙◌}
use Rattle.std.proofs.lemmas.List.{take_rest}
use Rattle.rs_request.proofs.LinesLemmas.{first_line_place}
use Rattle.rs_request.proofs.body.first_line.Goals as goal

pub returns-in-Some-clause-found : goal.returns-in-Some-clause-found
returns-in-Some-clause-found c low unfound =
    let xs = c.args.bytes.now in
    let at = c.args.sought in
    sym (first_line_place xs (take (length xs - at) (drop at xs)) at (Some c.in-Some.count) (take_rest xs at) low unfound
    (sym c.line_length.ensures.line ∙ c.in-Some.is))

pub returns-in-None-clause-found : goal.returns-in-None-clause-found
returns-in-None-clause-found c low unfound =
    let xs = c.args.bytes.now in
    let at = c.args.sought in
    sym (first_line_place xs (take (length xs - at) (drop at xs)) at None (take_rest xs at) low unfound
    (sym c.line_length.ensures.line ∙ c.in-None.is))
