use Rattle.std.proofs.Common.{◌∙◌, arith}
use Rattle.rs_path.proofs.KeyLemmas.{own_ends, theirs_end}
use Rattle.rs_path.proofs.key.compare_bytes.Goals as goal

pub returns-else-own_folder : goal.returns-else-own_folder
returns-else-own_folder c =
    own_ends c.args.own.now c.args.own_folder c.args.theirs.now c.args.their_folder c.loop-i.i (omega arith) (omega arith) c.if-own_folder.false
    ∙ c.loop-i.invariant

pub returns-else-their_folder : goal.returns-else-their_folder
returns-else-their_folder c =
    theirs_end c.args.own.now c.args.own_folder c.args.theirs.now c.args.their_folder c.loop-i.i (omega arith) (omega arith) c.if-their_folder.false
    ∙ c.loop-i.invariant
