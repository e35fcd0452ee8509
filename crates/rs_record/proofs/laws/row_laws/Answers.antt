use Rattle.rs_record.proofs.RowLemmas.{record_back, same_record, no_front, record_surplus}
use Rattle.rs_record.proofs.laws.row_laws.Goals as goal

pub returns : goal.returns
returns c = record { back = record_back; same = same_record; no_front = no_front; surplus = record_surplus }
