use Rattle.std.proofs.Common.{sym}
use Rattle.std.proofs.lemmas.List.{take_rest}
use Rattle.rs_path.proofs.ReadingLemmas.{slice_split_at, slice_split_whole}
use Rattle.rs_path.proofs.reading.cut.Goals as goal

pub returns-in-Some-clause-parts : goal.returns-in-Some-clause-parts
returns-in-Some-clause-parts c = rw take_rest (slice_split_at _ _ (sym c.in-Some.ensures)).1

pub returns-in-None-clause-parts : goal.returns-in-None-clause-parts
returns-in-None-clause-parts c = slice_split_whole _ (sym c.in-None.ensures)
