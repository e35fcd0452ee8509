use Rattle.std.proofs.Common.{sym, rules}
use Rattle.std.proofs.lemmas.Result.{err_from_is_err_and}
use Rattle.rs_path.specs.Readings.{name_by}
use Rattle.rs_path.proofs.ReadingLemmas.{Reads_fault}
use Rattle.rs_path.proofs.reading.read_segments.Goals as goal

pub returns-in_err-name : goal.returns-in_err-name
returns-in_err-name c =
    let fault = err_from_is_err_and c.from_residual-in_err-name.result c.from_residual-in_err-name.ensures.1 in
    record {
      read = rw (fault.1, fault.2, c.segments.invariant.same, c.cut.ensures.parts)
          (Reads_fault (name_by c.args.spelling) c.segments.place c.segments.names.items c.len.result c.cut.result.0.now _ c.in_err-name.field-0.0
          (search rules) (sym c.if-ends_folder.ensures) c.in_err-name.ensures.read);
    }
