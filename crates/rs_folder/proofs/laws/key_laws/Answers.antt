use Rattle.rs_folder.proofs.OrderLemmas.{items_ascend}
use Rattle.rs_folder.proofs.WrongKeyLemmas.{refused_first, read_all}
use Rattle.rs_folder.proofs.laws.key_laws.Goals as goal

pub returns : goal.returns
returns c = record { ascend = items_ascend; refused = refused_first; read = read_all }
