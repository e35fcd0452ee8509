use Rattle.std.proofs.Common.{arith}
use Rattle.std.proofs.lemmas.Bool.{and_from}
use Rattle.rs_record.proofs.CanonLemmas.{record_ok}
use Rattle.rs_record.proofs.decoding.decode.Goals as goal

pub returns-clause-lawful : goal.returns-clause-lawful
returns-clause-lawful c =
    and_from _ _ c.look_at_parts.ensures
    (record_ok c.args.row.now c.in_ok-it.it (λ i. let fit = c.type_inv.row i in omega (arith, fit)) c.in_ok-it.ensures).writable

pub returns-clause-canonical : goal.returns-clause-canonical
returns-clause-canonical c =
    (record_ok c.args.row.now c.in_ok-it.it (λ i. let fit = c.type_inv.row i in omega (arith, fit)) c.in_ok-it.ensures).spelled
