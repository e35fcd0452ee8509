use Rattle.rs_finger.proofs.UserLemmas.{user_text}
use Rattle.rs_finger.proofs.writing.text_of_user.Goals as goal

pub text_of-requires : goal.text_of-requires
text_of-requires c = user_text c.args.user.now c.requires
