-- How a reply is spelled: heads of interim replies, a head, and then the body by its framing (RFC
-- 9112).
use Rattle.std.specs.Prelude.{◌≡◌, ◌≢◌, ℕ, ◌/◌, ◌<◌, ◌≤◌, Bool, true, List, [], ◌∷◌, ◌++◌, length, Some, Ok}
use Rattle.std.specs.List.{list_all}
use Rattle.httparse.specs.Grammar.{ResponseHead, IsResponseHead, print_response, status_code}
use Rattle.rs_request.specs.declared.framing.Framing.{Framing}
use Rattle.rs_request.specs.declared.framing.Framing.TheVariants.{Unstated, Length, Chunked}
use Rattle.rs_reply.specs.declared.message.ReplyMessage.{ReplyMessage}
use Rattle.rs_request.specs.declared.search.Spot.TheVariants.{Before, Fresh}
use Rattle.rs_request.specs.Limits.{max_head, max_chunk_line, max_trailer}
use Rattle.rs_request.specs.Lines.{is_break, first_empty_line}
use Rattle.rs_request.specs.ChunkTexts.{size_of}
use Rattle.rs_request.specs.Framing.{stated}
use Rattle.rs_request.specs.RequestHeads.{fields_of}
use Rattle.rs_reply.specs.Replies.{reply_framing}
use Rattle.rs_request.specs.Spelling.{IsLine}
use Rattle.rs_reply.specs.Writing.{has_no_body}

-- line ends that are dropped, and a head of httparse's grammar up to its first empty line
pub record SpellsHead (h : ResponseHead) (text : List ℕ) : Type 0 where
  pub breaks : List ℕ
  pub dropped : list_all is_break breaks ≡ true
  pub valid : IsResponseHead h
  pub first : h.blank ≡ []
  pub whole : text ≡ breaks ++ print_response h
  pub ends : first_empty_line Before text ≡ Some (length text)
  pub short : length text ≤ max_head

-- heads of a status from 100 to 199, one after another
pub data Interims : List ℕ → Type 0 where
  none : Interims []
  skipped : {bytes : List ℕ} (h : ResponseHead) (text rest : List ℕ) → SpellsHead h text
      → status_code h / 100 ≡ 1 → Interims rest
      → bytes ≡ text ++ rest → Interims bytes

-- chunks, the last of size 0, and a trailer
pub data ReplyChunks : List ℕ → List ℕ → Type 0 where
  chunk : {body bytes : List ℕ} (line content later rest : List ℕ) → IsLine line
      → length line ≤ max_chunk_line
      → size_of line ≡ Some (length content) → 0 < length content → ReplyChunks later rest
      → body ≡ content ++ later
      → bytes ≡ line ++ (content ++ (13 ∷ 10 ∷ rest)) → ReplyChunks body bytes
  last : {bytes : List ℕ} (line trailer : List ℕ) → IsLine line → length line ≤ max_chunk_line
      → size_of line ≡ Some 0
      → first_empty_line Fresh trailer ≡ Some (length trailer) → length trailer ≤ max_trailer
      → bytes ≡ line ++ trailer → ReplyChunks [] bytes

-- a body by its framing
abbrev pub SpellsReplyBody : Framing → List ℕ → List ℕ → Type 0
SpellsReplyBody Unstated body bytes = bytes ≡ body
SpellsReplyBody (Length n) body bytes = (length body ≡ n) × (bytes ≡ body)
SpellsReplyBody Chunked body bytes = ReplyChunks body bytes

-- interim replies, a head, and the body by its framing
pub record SpellsReply (bodiless : Bool) (m : ReplyMessage) (bytes : List ℕ) : Type 0 where
  pub interims : List ℕ
  pub text : List ℕ
  pub tail : List ℕ
  pub head : ResponseHead
  pub framing : Framing
  pub before : Interims interims
  pub spells : SpellsHead head text
  pub final : status_code head / 100 ≢ 1
  pub states : stated (fields_of head.fields) ≡ Ok framing
  pub body : SpellsReplyBody (reply_framing (has_no_body bodiless (status_code head)) framing)
      m.body tail
  pub whole : bytes ≡ interims ++ (text ++ tail)
  pub same : m ≡ record { status = status_code head; fields = fields_of head.fields; body = m.body }
