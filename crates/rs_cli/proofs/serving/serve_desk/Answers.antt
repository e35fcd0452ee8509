use Rattle.rs_cli.proofs.PipeLemmas.{desk_pipes, only_user, some_user}
use Rattle.rs_cli.proofs.serving.serve_desk.Goals as goal

pub returns-clause-serves : goal.returns-clause-serves
returns-clause-serves g c h ready =
    let all = c.args.config.now.accounts in
    let served = c.serve_stream.ensures.serves (λ number. h) (λ number within. (only_user all number c.requires.one within, ready.stands, ready.spells)) in
    desk_pipes c.args.config.now h c.args.desk.now.state.now.quota _ _ _ _ _ c.serve_stream.result c.from.result served.0 served.2
    (served.1 0 (some_user all c.requires.one)).2 c.from.ensures
