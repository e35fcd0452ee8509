-- That what the server writes is read back, and the answers of which that holds.
use Rattle.std.specs.Prelude.{◌≡◌, ℕ, ◌<◌, ◌≤◌, ◌^◌, ⊤, Bool, true, List, ◌++◌, length, Ok}
use Rattle.std.specs.List.{list_all}
use Rattle.httparse.specs.Grammar.{is_value_byte, trim_ows}
use Rattle.rs_path.specs.Kinds.{is_kind}
use Rattle.rs_folder.specs.Descriptions.{folder_text}
use Rattle.rs_rules.specs.declared.reply.Reply.{Reply}
use Rattle.rs_rules.specs.declared.reply.Reply.TheVariants.{Found, Folder, Stored, Removed, Same}
use Rattle.rs_reply.specs.declared.message.ReplyMessage.{ReplyMessage}
use Rattle.rs_request.specs.Limits.{max_length_digits}
use Rattle.rs_reply.specs.Replies.{reply_of}
use Rattle.rs_exchange.specs.declared.answer.Answer.{Answer}
use Rattle.rs_exchange.specs.declared.answer.Answer.TheVariants.{Decided, Preflight, Refused, Made, Redirect}
use Rattle.rs_exchange.specs.FixedReplies.{interim_bytes}

-- a version is a number of 64 bits
abbrev pub IsVersion : ℕ → Type 0
IsVersion version = version < 2 ^ 64

-- the digits of a Content-Length tell how many bytes a body has (RFC 9110, section 8.6): it has fewer than 10^18, and no
-- memory holds as many
abbrev pub IsCountable : List ℕ → Type 0
IsCountable body = length body < 10 ^ max_length_digits

-- a desk's reply can be sent: nothing is asked of one that has no version
abbrev pub IsSendableReply : Reply → Type 0
IsSendableReply (Found version kind body) = IsVersion version × (is_kind kind ≡ true) × IsCountable body
IsSendableReply (Folder version items) = IsVersion version × IsCountable (folder_text items)
IsSendableReply (Stored version created) = IsVersion version
IsSendableReply (Removed version) = IsVersion version
IsSendableReply (Same version) = IsVersion version
IsSendableReply other = ⊤

-- an address can be sent as a field: its bytes are those of a value, and it is no longer than a head
pub record IsAddressLine (address : List ℕ) : Type 0 where
  pub valid : list_all is_value_byte address ≡ true
  pub trimmed : trim_ows address ≡ address
  pub short : length address ≤ 15000

-- an answer can be sent
abbrev pub IsSendable : Answer → Type 0
IsSendable (Decided reply) = IsSendableReply reply
IsSendable Preflight = ⊤
IsSendable (Refused refusal) = ⊤
IsSendable (Made sheet text) = IsCountable text
IsSendable (Redirect address) = IsAddressLine address

-- the bytes are read as this reply, alone and behind the interim reply, which is skipped (RFC 9110, section 15.2)
pub record IsReadBack (bodiless : Bool) (bytes : List ℕ) (m : ReplyMessage) : Type 0 where
  pub alone : reply_of bodiless bytes ≡ Ok m
  pub after_interim : reply_of bodiless (interim_bytes ++ bytes) ≡ Ok m
