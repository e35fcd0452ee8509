use Rattle.std.proofs.Common.{length, take, sym, ap, ◌∙◌, arith}
use Rattle.std.proofs.lemmas.List.{take_all}
use Rattle.rs_request.specs.Lines.{spot_after}
use Rattle.rs_request.proofs.LinesLemmas.{line_to_end, line_without_end}
use Rattle.rs_request.proofs.search.Spot.past.Goals as goal

pub returns-in-Some-clause-goes : goal.returns-in-Some-clause-goes
returns-in-Some-clause-goes c =
    ap (λ s. spot_after s (take c.in-Some.count c.args.rest.now)) c.in-Within.is
    ∙ line_to_end c.args.rest.now c.in-Some.count (sym c.line_length.ensures.line ∙ c.in-Some.is)

pub returns-in-None-clause-goes : goal.returns-in-None-clause-goes
returns-in-None-clause-goes c =
    let rest = c.args.rest.now in
    ap (λ s. spot_after s (take (length rest) rest)) c.in-Within.is
    ∙ ap (spot_after _) (take_all (length rest) rest (omega arith))
    ∙ line_without_end rest (sym c.line_length.ensures.line ∙ c.in-None.is)
