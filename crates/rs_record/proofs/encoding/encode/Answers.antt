use Rattle.std.proofs.lemmas.Bool.{and_from}
use Rattle.rs_record.proofs.RowLemmas.{record_back}
use Rattle.rs_record.proofs.encoding.encode.Goals as goal

pub returns-in_err-head-clause-back : goal.returns-in_err-head-clause-back
returns-in_err-head-clause-back c = record_back c.args.it.now (and_from _ _ c.look_at_parts.ensures c.requires.writable)

pub returns-clause-back : goal.returns-clause-back
returns-clause-back c = record_back c.args.it.now (and_from _ _ c.look_at_parts.ensures c.requires.writable)
