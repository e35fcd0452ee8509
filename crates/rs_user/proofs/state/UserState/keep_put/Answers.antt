use Rattle.rs_rules.specs.Contents.{contents}
use Rattle.rs_rules.specs.Answers.{token_of}
use Rattle.rs_user.proofs.MayLemmas.{put_short}
use Rattle.rs_user.proofs.state.UserState.keep_put.Goals as goal

pub prepare-requires-clause-room : goal.prepare-requires-clause-room
prepare-requires-clause-room g c =
    let may = c.requires.may in
    let call = c.args.call.now in (
      contents may.0,
      may.1.shows.tree,
      c.lawful_laws.ensures.room may.0 call.body may.1.lawful (put_short may.0 call.path call.kind call.body (token_of call.pass) may.2),
    )
