-- What a client asks, as the request that it sends (RFC 9110, sections 8, 9 and 13; RFC 6750, section 2.1;
-- draft-dejong-remotestorage, sections 4 to 6). The order of the fields is own.
use Rattle.std.specs.Prelude.{ℕ, Bool, true, not, List, [], ◌∷◌, ◌++◌, length, Option, Some, None, codes, decimal}
use Rattle.rs_path.specs.Paths.{Path}
use Rattle.rs_path.specs.Targets.{target_text}
use Rattle.rs_request.specs.declared.field.Field.{Field}
use Rattle.rs_request.specs.declared.message.RequestMessage.{RequestMessage}
use Rattle.rs_request.specs.Writing.{request_text}
use Rattle.rs_talk.specs.declared.ask.Ask.{Ask}
use Rattle.rs_talk.specs.declared.ask.Ask.TheVariants.{Folder, Document, Put, Remove}
use Rattle.rs_talk.specs.Roots.{Root}

-- ---- what is asked

-- the folder or the document that the ask is about
abbrev pub ask_path : Ask → Path
ask_path (Folder path known) = path
ask_path (Document path known) = path
ask_path (Put path base kind body) = path
ask_path (Remove path base) = path

-- a folder is asked for at the path of a folder, and all else at that of a document
abbrev pub is_ask : Ask → Bool
is_ask (Folder path known) = path.folder
is_ask (Document path known) = not path.folder
is_ask (Put path base kind body) = not path.folder
is_ask (Remove path base) = not path.folder

-- the method (RFC 9110, section 9.3)
abbrev pub ask_method : Ask → List ℕ
ask_method (Folder path known) = codes "GET"
ask_method (Document path known) = codes "GET"
ask_method (Put path base kind body) = codes "PUT"
ask_method (Remove path base) = codes "DELETE"

-- the body
abbrev pub ask_body : Ask → List ℕ
ask_body (Folder path known) = []
ask_body (Document path known) = []
ask_body (Put path base kind body) = body
ask_body (Remove path base) = []

-- the target: the path of the root, and behind it that of the ask
abbrev pub ask_target : Root → Ask → List ℕ
ask_target root ask = root.path ++ target_text (ask_path ask)

-- ---- its fields

-- an entity tag in its quotes, which is a strong one (RFC 9110, section 8.8.3)
abbrev pub strong_text : List ℕ → List ℕ
strong_text tag = 34 ∷ (tag ++ 34 ∷ [])

-- the host and the port of the root (RFC 9110, section 7.2)
abbrev pub host_sent : Root → Field
host_sent root = record { name = codes "Host"; value = root.authority }

-- the token (RFC 6750, section 2.1)
abbrev pub token_sent : List ℕ → Field
token_sent token = record { name = codes "Authorization"; value = codes "Bearer " ++ token }

-- the content type (RFC 9110, section 8.3)
abbrev pub kind_sent : List ℕ → Field
kind_sent kind = record { name = codes "Content-Type"; value = kind }

-- only what has this version is changed (RFC 9110, section 13.1.1)
abbrev pub match_sent : List ℕ → Field
match_sent tag = record { name = codes "If-Match"; value = strong_text tag }

-- only what has another version is shown (RFC 9110, section 13.1.2)
abbrev pub known_sent : List ℕ → Field
known_sent tag = record { name = codes "If-None-Match"; value = strong_text tag }

-- nothing is there yet (RFC 9110, section 13.1.2)
abbrev pub new_sent : Field
new_sent = record { name = codes "If-None-Match"; value = codes "*" }

-- the length of the body (RFC 9110, section 8.6)
abbrev pub length_sent : ℕ → Field
length_sent size = record { name = codes "Content-Length"; value = decimal size }

-- the connection ends behind the reply (RFC 9112, section 9.6)
abbrev pub close_sent : Field
close_sent = record { name = codes "Connection"; value = codes "close" }

-- a Put brings a content type
abbrev pub kinds_sent : Ask → List Field
kinds_sent (Folder path known) = []
kinds_sent (Document path known) = []
kinds_sent (Put path base kind body) = kind_sent kind ∷ []
kinds_sent (Remove path base) = []

-- what is known of a folder or a document isn't shown again
abbrev pub unless_known : Option (List ℕ) → List Field
unless_known None = []
unless_known (Some tag) = known_sent tag ∷ []

-- a document is written where it is as it was: of this version, or not there
abbrev pub while_based : Option (List ℕ) → Field
while_based None = new_sent
while_based (Some tag) = match_sent tag

-- the condition, where there is one
abbrev pub conditions_sent : Ask → List Field
conditions_sent (Folder path known) = unless_known known
conditions_sent (Document path known) = unless_known known
conditions_sent (Put path base kind body) = while_based base ∷ []
conditions_sent (Remove path base) = match_sent base ∷ []

-- a Put tells the length of its body
abbrev pub lengths_sent : Ask → List Field
lengths_sent (Folder path known) = []
lengths_sent (Document path known) = []
lengths_sent (Put path base kind body) = length_sent (length body) ∷ []
lengths_sent (Remove path base) = []

-- the fields in their order
abbrev pub fields_sent : Root → List ℕ → Ask → List Field
fields_sent root token ask = host_sent root ∷ token_sent token
    ∷ (kinds_sent ask ++ (conditions_sent ask ++ (lengths_sent ask ++ close_sent ∷ [])))

-- ---- the request

-- the request of an ask, below this root and with this token: it asks to close
abbrev pub ask_message : Root → List ℕ → Ask → RequestMessage
ask_message root token ask = record {
  method = ask_method ask;
  target = ask_target root ask;
  minor = 1;
  fields = fields_sent root token ask;
  body = ask_body ask;
  close = true;
  place = 0;
}

-- its bytes
abbrev pub ask_text : Root → List ℕ → Ask → List ℕ
ask_text root token ask = request_text (ask_message root token ask)
