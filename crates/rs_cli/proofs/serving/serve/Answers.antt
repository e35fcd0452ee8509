use Rattle.std.proofs.Common.{rules}
use Rattle.rs_cli.proofs.PipeLemmas.{pipes_borrowed}
use Rattle.rs_cli.proofs.serving.serve.Goals as goal

pub returns : goal.returns
returns g c =
    let desk = c.new-desk.result in
    record {
      serves = λ h ready.
          pipes_borrowed g.T.Tree.stands g.K.Keeper.rows g.K.Keeper.faults g.K.Keeper.row_count c.args.config.now h _ _ _ _ _ desk.state.now c.args.state.now desk.keeper.now c.args.keeper.now
          c.serve_desk.new.desk.keeper.now _ c.new-desk.ensures.state c.new-desk.ensures.keeper (search rules)
          (λ lent. c.serve_desk.ensures.serves h lent) ready;
    }
