use Rattle.rs_path.proofs.NameLemmas.{name_text}
use Rattle.rs_path.proofs.name.Name.as_slice.Goals as goal

pub returns-clause-text : goal.returns-clause-text
returns-clause-text c = rw (← c.self.view_is) (name_text _ c.self.invariant)
