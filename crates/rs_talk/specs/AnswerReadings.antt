-- How the bytes of a reply are read as the answer to an ask (RFC 9110, sections 8.3, 8.8.3 and 15;
-- draft-dejong-remotestorage, sections 4 to 6): the answer, or the place from which on they are none.
use Rattle.std.specs.Prelude.{◌≡◌, ℕ, ◌-◌, Bool, false, ◌&&◌, ◌||◌, ◌==◌, List, [], ◌∷◌, length, map, filter, nat_le, slice_index, slice_range, Option, Some, None, Result, Ok, Err, codes, if◌then◌else◌}
use Rattle.rs_path.specs.declared.entry.Entry.{Entry}
use Rattle.rs_path.specs.Kinds.{is_kind}
use Rattle.rs_path.specs.Tags.{is_tag}
use Rattle.rs_request.specs.declared.field.Field.{Field}
use Rattle.rs_request.specs.Names.{is_field_named}
use Rattle.rs_reply.specs.declared.message.ReplyMessage.{ReplyMessage}
use Rattle.rs_reply.specs.Replies.{reply_of}
use Rattle.rs_folder.specs.declared.folder_fault.FolderFault.{FolderFault}
use Rattle.rs_folder.specs.FolderReadings.{folder_reading}
use Rattle.rs_talk.specs.declared.answer.Answer.{Answer}
use Rattle.rs_talk.specs.declared.answer.Answer.TheVariants as answers
use Rattle.rs_talk.specs.declared.answer_fault.AnswerFault.{AnswerFault}
use Rattle.rs_talk.specs.declared.answer_fault.AnswerFault.TheVariants.{Bad, NoMemory}
use Rattle.rs_talk.specs.declared.ask.Ask.{Ask}
use Rattle.rs_talk.specs.declared.ask.Ask.TheVariants.{Folder, Document, Put, Remove}
use Rattle.rs_talk.specs.declared.part.Part.{Part}
use Rattle.rs_talk.specs.declared.part.Part.TheVariants.{Head, Body}
use Rattle.rs_talk.specs.Places.{head_start, head_end}

-- ---- fields

-- the values of the fields of that name, in their order
abbrev pub field_values : List ℕ → List Field → List (List ℕ)
field_values name fields = map (λ (f : Field). f.value) (filter (is_field_named name) fields)

-- the text begins and ends with a quote
abbrev pub is_quoted : List ℕ → Bool
is_quoted text = nat_le 2 (length text) && (slice_index text 0 == 34 && slice_index text (length text - 1) == 34)

-- the text without its first and its last byte
abbrev pub inside : List ℕ → List ℕ
inside text = slice_range text 1 (length text - 1)

-- the strong entity tag that a text is, if it is one: a tag in its quotes (RFC 9110, section 8.8.3)
abbrev pub strong_tag : List ℕ → Option (List ℕ)
strong_tag text = if is_quoted text && is_tag (inside text) then Some (inside text) else None

-- the one tag of ETag fields with these values
abbrev pub one_tag : List (List ℕ) → Option (List ℕ)
one_tag [] = None
one_tag (value ∷ []) = strong_tag value
one_tag (value ∷ other ∷ values) = None

-- the entity tag of a reply with these fields: its one ETag is a strong tag
abbrev pub tag_shown : List Field → Option (List ℕ)
tag_shown fields = one_tag (field_values (codes "etag") fields)

-- the content type of a document that is shown without one (RFC 9110, section 8.3)
abbrev pub unknown_kind : List ℕ
unknown_kind = codes "application/octet-stream"

-- the content type that a text is, if it is one
abbrev pub kind_in : List ℕ → Option (List ℕ)
kind_in text = if is_kind text then Some text else None

-- the one content type of Content-Type fields with these values
abbrev pub one_kind : List (List ℕ) → Option (List ℕ)
one_kind [] = Some unknown_kind
one_kind (value ∷ []) = kind_in value
one_kind (value ∷ other ∷ values) = None

-- the content type of a reply with these fields
abbrev pub kind_shown : List Field → Option (List ℕ)
kind_shown fields = one_kind (field_values (codes "content-type") fields)

-- ---- what a reply says

-- nothing but its status
abbrev pub plainly : ℕ → Result Answer Part
plainly status = Ok (answers.Status status)

-- the document with this tag, this content type and this body; without one of the first two the head is wrong
abbrev pub document_read : Option (List ℕ) → Option (List ℕ) → List ℕ → Result Answer Part
document_read None kind body = Err Head
document_read (Some tag) None body = Err Head
document_read (Some tag) (Some kind) body = Ok (answers.Document (record { tag = tag; kind = kind; body = body }))

-- the listing with this tag, where the body is the description of a folder
abbrev pub items_read : List ℕ → Result (List Entry) FolderFault → Result Answer Part
items_read tag (Ok items) = Ok (answers.Listing tag items)
items_read tag (Err fault) = Err Body

-- the same with the tag that may be there
abbrev pub listing_read : Option (List ℕ) → List ℕ → Result Answer Part
listing_read None body = Err Head
listing_read (Some tag) body = items_read tag (folder_reading body)

-- the version that the ask knew is the present one (RFC 9110, section 15.4.5); it has to have known one
abbrev pub same_read : Option (List ℕ) → Result Answer Part
same_read None = Err Head
same_read (Some tag) = Ok answers.Same

-- the version of what was written
abbrev pub stored_read : Option (List ℕ) → Bool → Result Answer Part
stored_read None created = Err Head
stored_read (Some tag) created = Ok (answers.Stored tag created)

-- what this reply says of a folder
abbrev pub folder_judged : Option (List ℕ) → ReplyMessage → Result Answer Part
folder_judged known m = if m.status == 200 then listing_read (tag_shown m.fields) m.body
    else if m.status == 304 then same_read known
    else if m.status == 404 then Ok answers.Absent
    else plainly m.status

-- of a document
abbrev pub document_judged : Option (List ℕ) → ReplyMessage → Result Answer Part
document_judged known m = if m.status == 200 then document_read (tag_shown m.fields) (kind_shown m.fields) m.body
    else if m.status == 304 then same_read known
    else if m.status == 404 then Ok answers.Absent
    else plainly m.status

-- of a document that was to be written
abbrev pub put_judged : ReplyMessage → Result Answer Part
put_judged m = if m.status == 200 || (m.status == 201 || m.status == 204) then stored_read (tag_shown m.fields) (m.status == 201)
    else if m.status == 304 then Err Head
    else if m.status == 412 then Ok answers.Unmet
    else plainly m.status

-- of a document that was to be removed
abbrev pub remove_judged : ReplyMessage → Result Answer Part
remove_judged m = if m.status == 200 || m.status == 204 then Ok answers.Removed
    else if m.status == 304 then Err Head
    else if m.status == 404 then Ok answers.Absent
    else if m.status == 412 then Ok answers.Unmet
    else plainly m.status

-- what this reply says to the ask, or the part of it that is wrong
abbrev pub judged : Ask → ReplyMessage → Result Answer Part
judged (Folder path known) m = folder_judged known m
judged (Document path known) m = document_judged known m
judged (Put path base kind body) m = put_judged m
judged (Remove path base) m = remove_judged m

-- ---- where

-- the place of the first byte of a part of the reply
abbrev pub part_place : List ℕ → Part → ℕ
part_place bytes Head = head_start bytes
part_place bytes Body = head_end bytes

-- the answer, or the place of the wrong part
abbrev pub answer_at : List ℕ → Result Answer Part → Result Answer ℕ
answer_at bytes (Ok answer) = Ok answer
answer_at bytes (Err part) = Err (part_place bytes part)

-- the answer of the reply, or the place from which on the bytes are none
abbrev pub answer_of_reply : Ask → List ℕ → Result ReplyMessage ℕ → Result Answer ℕ
answer_of_reply ask bytes (Ok m) = answer_at bytes (judged ask m)
answer_of_reply ask bytes (Err place) = Err place

-- the answer that the bytes are to the ask, or the place from which on they are none
abbrev pub answer_reading : Ask → List ℕ → Result Answer ℕ
answer_reading ask bytes = answer_of_reply ask bytes (reply_of false bytes)

-- the call read this, or memory ran out
abbrev pub ReadsAnswer : Result Answer AnswerFault → Result Answer ℕ → Type 0
ReadsAnswer (Ok answer) wanted = wanted ≡ Ok answer
ReadsAnswer (Err (Bad place)) wanted = wanted ≡ Err place
ReadsAnswer (Err NoMemory) wanted = Unit {0}
