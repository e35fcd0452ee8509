use Rattle.std.proofs.Common.{inl, inr, Err, refl, ap, arith}
use Rattle.rs.proofs.WantLemmas.{ends_unopened}
use Rattle.rs.proofs.running.run_over_rows.Goals as goal

pub returns-in-Err-Failed-clause-run : goal.returns-in-Err-Failed-clause-run
returns-in-Err-Failed-clause-run g c words reads =
    ends_unopened c.args.command words _ c.status.result.note c.requires.rows reads record {
      same = c.in-Err-Failed.ensures.err;
      later = c.in-Err-Failed.ensures.cause.later;
      unopened = inl (c.in-Err-Failed.ensures.cause.failed (ap Err c.in-Err-Failed.field-0-is), c.status.ensures.note);
      words = (refl, refl);
      source = (refl, refl);
      heard = omega arith;
      sink = (refl, refl);
    }

pub returns-clause-run : goal.returns-clause-run
returns-clause-run g c words reads =
    ends_unopened c.args.command words _ c.status-in-Err-NoMemory.result.note c.requires.rows reads record {
      same = c.in-Err-NoMemory.ensures.err;
      later = c.in-Err-NoMemory.ensures.cause.later;
      unopened = inr c.status-in-Err-NoMemory.ensures.note;
      words = (refl, refl);
      source = (refl, refl);
      heard = omega arith;
      sink = (refl, refl);
    }
