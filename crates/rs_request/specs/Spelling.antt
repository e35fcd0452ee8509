-- How a request is spelled: a head, and then the body by its framing (RFC 9112).
use Rattle.std.specs.Prelude.{◌≡◌, ℕ, ◌+◌, ◌<◌, ◌≤◌, true, List, [], ◌∷◌, ◌++◌, length, Some, Ok}
use Rattle.std.specs.List.{list_all}
use Rattle.httparse.specs.Grammar.{RequestHead, IsRequestHead, print_request}
use Rattle.rs_request.specs.declared.framing.Framing.{Framing}
use Rattle.rs_request.specs.declared.framing.Framing.TheVariants.{Unstated, Length, Chunked}
use Rattle.rs_request.specs.declared.head.Begun.{Begun}
use Rattle.rs_request.specs.declared.message.RequestMessage.{RequestMessage}
use Rattle.rs_request.specs.declared.search.Spot.TheVariants.{Before, Fresh}
use Rattle.rs_path.specs.Limits.{max_body}
use Rattle.rs_request.specs.Limits.{max_head, max_chunk_line, max_trailer}
use Rattle.rs_request.specs.Lines.{is_break, first_line, first_empty_line}
use Rattle.rs_request.specs.ChunkTexts.{size_of}
use Rattle.rs_request.specs.RequestHeads.{judged_head}
use Rattle.rs_request.specs.Readings.{with_body}

-- the text is one line, up to its first LF
abbrev pub IsLine : List ℕ → Type 0
IsLine text = first_line text ≡ Some (length text)

-- chunks, the last of size 0, and a trailer, where the chunks before have so many bytes
pub data Chunks : ℕ → List ℕ → List ℕ → Type 0 where
  chunk : {so_far : ℕ} {body bytes : List ℕ} (line content later rest : List ℕ) → IsLine line
      → length line ≤ max_chunk_line
      → size_of line ≡ Some (length content) → 0 < length content
      → so_far + length content ≤ max_body
      → Chunks (so_far + length content) later rest → body ≡ content ++ later
      → bytes ≡ line ++ (content ++ (13 ∷ 10 ∷ rest))
      → Chunks so_far body bytes
  last : {so_far : ℕ} {bytes : List ℕ} (line trailer : List ℕ) → IsLine line
      → length line ≤ max_chunk_line → size_of line ≡ Some 0 → so_far ≤ max_body
      → first_empty_line Fresh trailer ≡ Some (length trailer) → length trailer ≤ max_trailer
      → bytes ≡ line ++ trailer
      → Chunks so_far [] bytes

-- a body by its framing
abbrev pub SpellsBody : Framing → List ℕ → List ℕ → Type 0
SpellsBody Unstated body bytes = (body ≡ []) × (bytes ≡ [])
SpellsBody (Length n) body bytes = (length body ≡ n) × (bytes ≡ body)
SpellsBody Chunked body bytes = Chunks 0 body bytes

-- line ends that are dropped, a head of httparse's grammar up to its first empty line, and the body
pub record SpellsRequest (place : ℕ) (m : RequestMessage) (bytes : List ℕ) : Type 0 where
  pub breaks : List ℕ
  pub head : RequestHead
  pub begun : Begun
  pub tail : List ℕ
  pub dropped : list_all is_break breaks ≡ true
  pub valid : IsRequestHead head
  pub first : head.blank ≡ []
  pub ends : first_empty_line Before (breaks ++ print_request head)
      ≡ Some (length (breaks ++ print_request head))
  pub short : length (breaks ++ print_request head) ≤ max_head
  pub judged : judged_head place head ≡ Ok begun
  pub whole : bytes ≡ (breaks ++ print_request head) ++ tail
  pub body : SpellsBody begun.framing m.body tail
  pub same : m ≡ with_body begun.message m.body
