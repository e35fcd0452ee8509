use Rattle.rs_cli.proofs.PipeLemmas.{pipe_ends}
use Rattle.rs_cli.proofs.serving.pipe.Goals as goal

pub returns-in-Ok-open_granted : goal.returns-in-Ok-open_granted
returns-in-Ok-open_granted g c =
    let serving = c.args.serving in
    record {
      ends = rw (← c.in-Ok.ensures.same) (pipe_ends g.T.Tree.stands _ serving.token serving.scopes serving.quota _ _ _ _ _ _ _
          c.in-Ok-open_granted.state _ _ _ _ c.serve.result
          c.open_granted.ensures.later c.in-Ok-open_granted.ensures.opened c.serve.ensures.serves);
    }
