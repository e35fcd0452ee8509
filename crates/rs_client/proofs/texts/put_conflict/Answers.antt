use Rattle.std.proofs.Common.{[], ◌∷◌, codes, decimal}
use Rattle.rs_path.specs.Targets.{target_text}
use Rattle.rs_client.specs.Texts.{conflict_line, change_words, remote_word}
use Rattle.rs_client.proofs.TextLemmas.{in_eight_steps}
use Rattle.rs_client.proofs.texts.put_conflict.Goals as goal

pub returns : goal.returns
unfolding conflict_line
returns c =
    let r = c.args.conflict.now in
    record {
      ok = in_eight_steps c.args.out.now.items (decimal r.n) (codes " ") (target_text r.path) (codes " ") (change_words r.local) (codes " remote ")
          (remote_word r.remote) (10 ∷ [])
          c.in_ok-put_number.ensures.ok c.in_ok-put_text.ensures.ok c.in_ok-write_target.ensures.ok c.in_ok-put_text-2.ensures.ok
          c.in_ok-put_change.ensures.ok c.in_ok-put_text-3.ensures.ok c.in_ok-put_remote.ensures.ok c.in_ok-put_text-4.ensures.ok;
    }
