use Rattle.rs_user.proofs.OpeningLemmas.{takes_read}
use Rattle.rs_user.proofs.opening.UserStateReplayed.take_row.Goals as goal

pub returns-in-Ok-clause-taken : goal.returns-in-Ok-clause-taken
returns-in-Ok-clause-taken g c rows made =
    takes_read g.T.Tree.stands c.args.self.now c.take.new.self c.take.result rows c.args.row.now c.in-Ok.what c.in-Ok.ensures.read c.in-Ok.ensures.canonical
    c.take.ensures.taken made
