-- The reply that an answer is (RFC 9110, sections 8 to 15). The order of the fields and the empty bodies of refusals are own.
use Rattle.std.specs.Prelude.{ℕ, Bool, true, false, ◌==◌, ◌||◌, List, [], ◌∷◌, ◌++◌, length, codes, decimal, if◌then◌else◌}
use Rattle.rs_rules.specs.declared.reply.Reply.{Reply}
use Rattle.rs_rules.specs.declared.reply.Reply.TheVariants.{Found, Folder, Stored, Removed, Same, NoToken, BadToken, Forbidden, FolderWrite, Clash, Absent, Unmet, RecordsFull, OverQuota, FolderFull, StoreFailed, Granted, TokenTaken, Revoked, NotGranted}
use Rattle.rs_request.specs.declared.field.Field.{Field}
use Rattle.rs_reply.specs.declared.message.ReplyMessage.{ReplyMessage}
use Rattle.rs_reply.specs.Writing.{reply_text}
use Rattle.rs_folder.specs.Descriptions.{folder_text}
use Rattle.rs_exchange.specs.declared.answer.Answer.{Answer}
use Rattle.rs_exchange.specs.declared.answer.Answer.TheVariants.{Decided, Preflight, Refused, Made, Redirect}
use Rattle.rs_exchange.specs.declared.answer.Sheet.{Sheet}
use Rattle.rs_exchange.specs.declared.answer.Sheet.TheVariants.{Description, ConsentPage, DeniedPage}
use Rattle.rs_exchange.specs.declared.manner.Manner.{Manner}
use Rattle.rs_exchange.specs.declared.refusal.Refusal.{Refusal}
use Rattle.rs_exchange.specs.declared.refusal.Refusal.TheVariants.{NotFound, NotAllowed, BadPath, BadCondition, BadKind, PartOnly, BadResource, BadAddress}
use Rattle.rs_exchange.specs.Targets.{method_list}

-- ---- fields

-- a field with this name and this text
abbrev pub named_field : List ℕ → List ℕ → Field
named_field name text = record { name = name; value = text }

-- the entity tag of a version (RFC 9110, section 8.8.3)
abbrev pub tag_field : ℕ → Field
tag_field version = record { name = codes "ETag"; value = codes "\"" ++ (decimal version ++ codes "\"") }

-- a cache asks again before it shows what it kept (RFC 9111, section 5.2.2.4)
abbrev pub fresh_field : Field
fresh_field = record { name = codes "Cache-Control"; value = codes "no-cache" }

-- a content type (RFC 9110, section 8.3)
abbrev pub type_field : List ℕ → Field
type_field kind = record { name = codes "Content-Type"; value = kind }

-- the length of the body (RFC 9110, section 8.6)
abbrev pub length_field : ℕ → Field
length_field size = record { name = codes "Content-Length"; value = decimal size }

-- a challenge (RFC 6750, section 3)
abbrev pub challenge_field : List ℕ → Field
challenge_field text = record { name = codes "WWW-Authenticate"; value = text }

-- a list of methods (RFC 9110, section 10.2.1)
abbrev pub allow_field : List ℕ → Field
allow_field list = record { name = codes "Allow"; value = list }

-- where the browser goes on (RFC 9110, section 10.2.2)
abbrev pub location_field : List ℕ → Field
location_field address = record { name = codes "Location"; value = address }

-- pages of any origin may read the reply (Fetch, CORS)
abbrev pub origin_field : Field
origin_field = record { name = codes "Access-Control-Allow-Origin"; value = codes "*" }

-- and these of its fields
abbrev pub exposed_field : Field
exposed_field = record { name = codes "Access-Control-Expose-Headers"; value = codes "ETag, Content-Type, Content-Length" }

-- what another origin's page may send (Fetch, CORS-preflight)
abbrev pub preflight_fields : List Field
preflight_fields =
    record { name = codes "Access-Control-Allow-Methods"; value = codes "GET, HEAD, PUT, DELETE, OPTIONS" }
    ∷ record { name = codes "Access-Control-Allow-Headers"; value = codes "Authorization, Content-Type, Content-Length, If-Match, If-None-Match, Origin" }
    ∷ record { name = codes "Access-Control-Max-Age"; value = codes "7200" } ∷ []

-- the connection ends behind the reply (RFC 9112, section 9.6)
abbrev pub close_field : Field
close_field = record { name = codes "Connection"; value = codes "close" }

-- what is shown of a version: its entity tag, that a cache asks again, and its content type
abbrev pub shown_fields : ℕ → List ℕ → List Field
shown_fields version kind = tag_field version ∷ fresh_field ∷ type_field kind ∷ []

-- ---- what an answer says

-- a reply but for what its manner adds: its status, the fields that are its own, and the body that a GET is shown
pub record Outline : Type 0 where
  pub status : ℕ
  pub fields : List Field
  pub body : List ℕ

-- a status and these fields
abbrev pub plain : ℕ → List Field → Outline
plain status fields = record { status = status; fields = fields; body = [] }

-- of a desk's reply. The last four are no replies to a request on a document or a folder
abbrev pub reply_outline : Reply → Outline
reply_outline (Found version kind body) =
    record { status = 200; fields = shown_fields version kind; body = body }
reply_outline (Folder version items) =
    record { status = 200; fields = shown_fields version (codes "application/ld+json"); body = folder_text items }
reply_outline (Stored version created) = plain (if created then 201 else 200) (tag_field version ∷ [])
reply_outline (Removed version) = plain 200 (tag_field version ∷ [])
reply_outline (Same version) = plain 304 (tag_field version ∷ fresh_field ∷ [])
reply_outline NoToken = plain 401 (challenge_field (codes "Bearer realm=\"remotestorage\"") ∷ [])
reply_outline BadToken = plain 401 (challenge_field (codes "Bearer realm=\"remotestorage\", error=\"invalid_token\"") ∷ [])
reply_outline Forbidden = plain 403 (challenge_field (codes "Bearer realm=\"remotestorage\", error=\"insufficient_scope\"") ∷ [])
reply_outline FolderWrite = plain 400 []
reply_outline (Clash path) = plain 409 []
reply_outline Absent = plain 404 []
reply_outline Unmet = plain 412 []
reply_outline RecordsFull = plain 507 []
reply_outline (OverQuota live) = plain 507 []
reply_outline (FolderFull path) = plain 507 []
reply_outline StoreFailed = plain 500 []
reply_outline Granted = plain 500 []
reply_outline TokenTaken = plain 500 []
reply_outline Revoked = plain 500 []
reply_outline NotGranted = plain 500 []

-- of a refusal
abbrev pub refusal_outline : Refusal → Outline
refusal_outline NotFound = plain 404 []
refusal_outline (NotAllowed methods) = plain 405 (allow_field (method_list methods) ∷ [])
refusal_outline BadPath = plain 400 []
refusal_outline BadCondition = plain 400 []
refusal_outline BadKind = plain 400 []
refusal_outline PartOnly = plain 400 []
refusal_outline BadResource = plain 400 []
refusal_outline BadAddress = plain 400 []

-- a text that was made is sent with this status
abbrev pub sheet_status : Sheet → ℕ
sheet_status Description = 200
sheet_status ConsentPage = 200
sheet_status DeniedPage = 403

-- and with this content type
abbrev pub sheet_kind : Sheet → List ℕ
sheet_kind Description = codes "application/jrd+json"
sheet_kind ConsentPage = codes "text/html; charset=utf-8"
sheet_kind DeniedPage = codes "text/html; charset=utf-8"

-- of an answer
abbrev pub outline_of : Answer → Outline
outline_of (Decided reply) = reply_outline reply
outline_of Preflight = plain 204 preflight_fields
outline_of (Refused refusal) = refusal_outline refusal
outline_of (Made sheet text) = record { status = sheet_status sheet; fields = type_field (sheet_kind sheet) ∷ []; body = text }
outline_of (Redirect address) = plain 302 (location_field address ∷ [])

-- the answer has a part of any length: a document, the description of a folder, a text that was made, or an address
abbrev pub has_content : Answer → Bool
has_content (Decided (Found version kind body)) = true
has_content (Decided (Folder version items)) = true
has_content (Made sheet text) = true
has_content (Redirect address) = true
has_content answer = false

-- the description of a folder that is answered
abbrev pub listing_of : Answer → List ℕ
listing_of (Decided (Folder version items)) = folder_text items
listing_of answer = []

-- ---- the reply

-- the fields that let pages of any origin read the reply
abbrev pub origin_fields : Bool → List Field
origin_fields shared = if shared then origin_field ∷ exposed_field ∷ [] else []

-- all replies but 204 and 304 tell the length of their body (RFC 9110, section 8.6)
abbrev pub length_fields : ℕ → ℕ → List Field
length_fields status size = if status == 204 || status == 304 then [] else length_field size ∷ []

abbrev pub close_fields : Bool → List Field
close_fields closing = if closing then close_field ∷ [] else []

-- the reply of this outline, in this manner: to HEAD it is that to GET without the body (RFC 9110, section 9.3.2)
abbrev pub reply_by : Manner → Outline → ReplyMessage
reply_by manner it = record {
  status = it.status;
  fields = origin_fields manner.shared ++ (it.fields ++ (length_fields it.status (length it.body) ++ close_fields manner.closing));
  body = if manner.bodiless then [] else it.body;
}

-- the reply that an answer is
abbrev pub reply_message : Manner → Answer → ReplyMessage
reply_message manner answer = reply_by manner (outline_of answer)

-- its bytes
unfoldable pub reply_bytes : Manner → Answer → List ℕ
reply_bytes manner answer = reply_text (reply_message manner answer)
