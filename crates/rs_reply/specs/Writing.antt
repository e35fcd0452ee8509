-- The bytes of a reply as they are written (RFC 9112, sections 4 to 6).
use Rattle.std.specs.Prelude.{◌≡◌, ◌<◌, ◌==◌, ◌||◌, Bool, true, false, if◌then◌else◌, is_ok, Result, Err, ⊤, ℕ, ◌+◌, ◌/◌, ◌%◌, List, [], ◌∷◌, ◌++◌, length, map, Ok, codes, All}
use Rattle.std.specs.List.{list_any}
use Rattle.httparse.specs.Grammar.{IsField, trim_ows}
use Rattle.rs_request.specs.declared.fault.WireWhy.{WireWhy}
use Rattle.rs_request.specs.declared.framing.Framing.{Framing}
use Rattle.rs_request.specs.declared.framing.Framing.TheVariants.{Unstated, Length, Chunked}
use Rattle.rs_request.specs.Framing.{is_coding, stated}
use Rattle.rs_request.specs.Writing.{fields_text, line_for}
use Rattle.rs_reply.specs.declared.message.ReplyMessage.{ReplyMessage}

-- the phrase of a status, as it is written
abbrev pub phrase_of : ℕ → List ℕ
phrase_of status =
    if status == 100 then codes "Continue"
    else (if status == 200 then codes "OK"
    else (if status == 201 then codes "Created"
    else (if status == 204 then codes "No Content"
    else (if status == 302 then codes "Found"
    else (if status == 304 then codes "Not Modified"
    else (if status == 400 then codes "Bad Request"
    else (if status == 401 then codes "Unauthorized"
    else (if status == 403 then codes "Forbidden"
    else (if status == 404 then codes "Not Found"
    else (if status == 405 then codes "Method Not Allowed"
    else (if status == 409 then codes "Conflict"
    else (if status == 412 then codes "Precondition Failed"
    else (if status == 413 then codes "Content Too Large"
    else (if status == 414 then codes "URI Too Long"
    else (if status == 431 then codes "Request Header Fields Too Large"
    else (if status == 500 then codes "Internal Server Error"
    else (if status == 501 then codes "Not Implemented"
    else (if status == 503 then codes "Service Unavailable"
    else (if status == 507 then codes "Insufficient Storage" else [])))))))))))))))))))

-- the three digits of a status
abbrev pub status_digits : ℕ → List ℕ
status_digits status = (48 + status / 100 % 10) ∷ (48 + status / 10 % 10) ∷ (48 + status % 10) ∷ []

-- "HTTP/1.1" SP status SP
abbrev pub start_text : ℕ → List ℕ
start_text status = codes "HTTP/1.1 " ++ (status_digits status ++ (32 ∷ []))

-- the line with which a reply begins: its status, and the phrase of that
unfoldable pub status_line : ℕ → List ℕ
status_line status = start_text status ++ (phrase_of status ++ (13 ∷ 10 ∷ []))

-- "HTTP/1.1" SP status SP phrase CR LF fields
abbrev pub reply_head_text : ReplyMessage → List ℕ
reply_head_text m = codes "HTTP/1.1 "
    ++ (status_digits m.status ++ (32 ∷ (phrase_of m.status ++ (13 ∷ 10 ∷ fields_text m.fields))))

-- the bytes of a reply
abbrev pub reply_text : ReplyMessage → List ℕ
reply_text m = reply_head_text m ++ m.body

-- a reply that has no body whatever its fields say: the reply to HEAD, 204 and 304
abbrev pub has_no_body : Bool → ℕ → Bool
has_no_body bodiless status = bodiless || (status == 204 || status == 304)

-- the body is as long as the fields say, where they say it
abbrev pub IsReplyBody : Result Framing WireWhy → List ℕ → Type 0
IsReplyBody (Ok Unstated) body = ⊤
IsReplyBody (Ok (Length n)) body = n ≡ length body
IsReplyBody (Ok Chunked) body = ⊥
IsReplyBody (Err why) body = ⊥

-- the reply has a spelling that is its written one: a status with a phrase, and no
-- Transfer-Encoding
pub record IsWritableReply (bodiless : Bool) (m : ReplyMessage) : Type 0 where
  pub phrase : 0 < length (phrase_of m.status)
  pub valid : All IsField (map line_for m.fields)
  pub trimmed : All (λ f. trim_ows f.value ≡ f.value) m.fields
  pub uncoded : list_any is_coding m.fields ≡ false
  pub framing : is_ok (stated m.fields) ≡ true
  pub empty : has_no_body bodiless m.status ≡ true → m.body ≡ []
  pub framed : has_no_body bodiless m.status ≡ false → IsReplyBody (stated m.fields) m.body
