use Rattle.rs_talk.proofs.PlaceLemmas.{within_end}
use Rattle.rs_talk.proofs.places.head_start.Goals as goal

pub overflow_sub-result : goal.overflow_sub-result
overflow_sub-result c =
    within_end c.past_breaks.result.now c.last_part.result.now c.window-heads.result.now c.args.bytes.now c.args.end
    c.past_breaks.ensures.value c.last_part.ensures.within c.window-heads.ensures.front
