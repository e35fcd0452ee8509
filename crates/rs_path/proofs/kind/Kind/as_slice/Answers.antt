use Rattle.rs_path.proofs.AsciiLemmas.{kind_text}
use Rattle.rs_path.proofs.kind.Kind.as_slice.Goals as goal

pub returns-clause-text : goal.returns-clause-text
returns-clause-text c = rw (← c.self.view_is) (kind_text _ c.self.invariant)
