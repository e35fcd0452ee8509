use Rattle.std.proofs.Common.{◌≡◌, ◌+◌, drop, false}
use Rattle.rs_rules.specs.CondReadings.{item_len}
use Rattle.rs_rules.proofs.reading.item_len.Given as goal

abbrev pub invariant-loop-i : goal.invariant-loop-i
invariant-loop-i l = item_len false l.text ≡ l.i + item_len l.quoted (drop l.i l.text)
