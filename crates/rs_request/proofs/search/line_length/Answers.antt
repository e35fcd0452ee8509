use Rattle.std.proofs.Common.{◌+◌, sym, ap, ◌∙◌}
use Rattle.std.specs.Prelude.{option_map}
use Rattle.rs_request.proofs.LinesLemmas.{line_found}
use Rattle.rs_request.proofs.search.line_length.Goals as goal

pub returns-in-Some-clause-line : goal.returns-in-Some-clause-line
returns-in-Some-clause-line c =
    ap (option_map (λ k. k + 1)) (sym c.in-Some.is) ∙ line_found c.args.bytes.now c.memchr.result c.memchr.ensures

pub returns-in-None-clause-line : goal.returns-in-None-clause-line
returns-in-None-clause-line c =
    ap (option_map (λ k. k + 1)) (sym c.in-None.is) ∙ line_found c.args.bytes.now c.memchr.result c.memchr.ensures
