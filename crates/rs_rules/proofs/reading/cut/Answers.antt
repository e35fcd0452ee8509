use Rattle.std.proofs.Common.{◌<◌, ◌≤◌, false, length, arith}
use Rattle.std.proofs.lemmas.List.{take_rest}
use Rattle.rs_rules.specs.CondReadings.{item_len}
use Rattle.rs_rules.proofs.ReadingLemmas.{cut_at, cut_whole}
use Rattle.rs_rules.proofs.reading.cut.Goals as goal

pub returns-then-end-text-clause-parts : goal.returns-then-end-text-clause-parts
returns-then-end-text-clause-parts c =
    let len = c.item_len-end.ensures.len in
    let inside : item_len false c.args.text.now < length c.args.text.now = omega (arith, len, c.if-end-text.true) in
    rw (take_rest, len) (cut_at false c.args.text.now inside)

pub returns-else-end-text-clause-parts : goal.returns-else-end-text-clause-parts
returns-else-end-text-clause-parts c =
    let outside : length c.args.text.now ≤ item_len false c.args.text.now = omega (arith, c.item_len-end.ensures.len, c.if-end-text.false) in
    cut_whole false c.args.text.now outside
