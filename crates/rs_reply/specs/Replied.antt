-- What the laws of written replies speak of.
use Rattle.std.specs.Prelude.{◌≡◌, ◌≤◌, Bool, [], length}
use Rattle.rs_reply.specs.declared.message.ReplyMessage.{ReplyMessage}
use Rattle.rs_request.specs.Limits.{max_head}
use Rattle.rs_reply.specs.Writing.{IsWritableReply, reply_head_text}

-- the reply can be written, and its head lies within the limit of a head
pub record IsReadable (bodiless : Bool) (m : ReplyMessage) : Type 0 where
  pub writable : IsWritableReply bodiless m
  pub short : length (reply_head_text m) ≤ max_head

-- the interim reply 100, which has no body
pub record IsInterim (bodiless : Bool) (m : ReplyMessage) : Type 0 where
  pub readable : IsReadable bodiless m
  pub status : m.status ≡ 100
  pub empty : m.body ≡ []
