use Rattle.rs_front.proofs.OutputLemmas.{outputs_are_one}
use Rattle.rs_front.proofs.output.one_output.Goals as goal

pub returns : goal.returns
returns c = record { one = outputs_are_one }
