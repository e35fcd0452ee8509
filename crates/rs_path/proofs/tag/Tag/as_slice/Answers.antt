use Rattle.rs_path.proofs.AsciiLemmas.{tag_text}
use Rattle.rs_path.proofs.tag.Tag.as_slice.Goals as goal

pub returns-clause-text : goal.returns-clause-text
returns-clause-text c = rw (← c.self.view_is) (tag_text _ c.self.invariant)
