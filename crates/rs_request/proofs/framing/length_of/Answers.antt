use Rattle.std.proofs.Common.{ap, sym, ◌∙◌}
use Rattle.std.specs.Option.{option_copied}
use Rattle.rs_request.specs.Framing.{is_length}
use Rattle.rs_request.proofs.LengthLemmas.{first_length}
use Rattle.rs_request.proofs.framing.length_of.Goals as goal

pub number-requires : goal.number-requires
number-requires c =
    let found = sym c.first_named.ensures ∙ ap option_copied c.in-Some.is in
    ap is_length c.as_slice.ensures.bytes ∙ first_length c.args.fields.now c.in-Some.first.now c.requires found
