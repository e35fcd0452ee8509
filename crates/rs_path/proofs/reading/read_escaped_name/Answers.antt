use Rattle.std.proofs.Common.{◌≡◌, None, length, sym, ap, ◌∙◌, arith}
use Rattle.percent_encoding.proofs.PercentLemmas.{length-percent_decode}
use Rattle.rs_path.specs.Readings.{name_fault}
use Rattle.rs_path.proofs.NameLemmas.{is_name-from_fault, length-from_fault}
use Rattle.rs_path.proofs.reading.read_escaped_name.Goals as goal

pub of-requires : goal.of-requires
of-requires c =
    let none : name_fault c.in_ok-bytes.bytes.items ≡ None = ap name_fault (sym c.as_slice.ensures.value) ∙ sym c.in-None.ensures.fault in
    let bounds = length-percent_decode c.args.segment.now in
    let same = ap length c.in_ok-bytes.ensures in
    is_name-from_fault c.in_ok-bytes.bytes.items none (omega (arith, bounds.1, same, c.requires))

pub returns-in-None-clause-short : goal.returns-in-None-clause-short
returns-in-None-clause-short c =
    let none : name_fault c.in_ok-bytes.bytes.items ≡ None = ap name_fault (sym c.as_slice.ensures.value) ∙ sym c.in-None.ensures.fault in
    let bounds = length-percent_decode c.args.segment.now in
    let same = ap length c.in_ok-bytes.ensures in
    let short = length-from_fault c.in_ok-bytes.bytes.items none in
    omega (arith, bounds.1, same, short)
