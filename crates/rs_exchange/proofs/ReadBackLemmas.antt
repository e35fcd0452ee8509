-- What the server writes is read back.
use Rattle.std.proofs.Common.{◌≡◌, ◌≢◌, ℕ, ◌+◌, ◌<◌, ◌≤◌, ◌^◌, Bool, true, false, ◌||◌, ◌==◌, List, [], ◌∷◌, ◌++◌, length, map, codes, Option, Some, None, Result, Ok, Err, if◌then◌else◌, nat_lt, nat_le, ◌&&◌, arith, refl, sym, ap, subst, ◌∙◌}
use Rattle.std.specs.Prelude.{All, flat_map}
use Rattle.std.specs.Option.{option_map_or}
use Rattle.std.proofs.lemmas.Bool.{and_parts, ltb-true, leb-true}
use Rattle.std.proofs.lemmas.List.{append-nil, append_assoc, length-append}
use Rattle.std.proofs.lemmas.List.Elements.{All-nil, All-cons}
use Rattle.rs_path.specs.Kinds.{is_kind}
use Rattle.rs_folder.specs.Descriptions.{folder_text}
use Rattle.rs_rules.specs.declared.reply.Reply.{Reply}
use Rattle.rs_rules.specs.declared.reply.Reply.TheVariants.{Found, Folder, Stored, Removed, Same, NoToken, BadToken, Forbidden, FolderWrite, Clash, Absent, Unmet, RecordsFull, OverQuota, FolderFull, StoreFailed, Granted, TokenTaken, Revoked, NotGranted}
use Rattle.rs_request.specs.declared.fault.WireWhy.{WireWhy}
use Rattle.rs_request.specs.declared.fault.WireWhy.TheVariants.{BadHead, HeadLong, TargetLong, BodyLong, BadLength, TwoLengths, BadChunk, Coding, Truncated}
use Rattle.rs_request.specs.declared.field.Field.{Field}
use Rattle.rs_request.specs.declared.framing.Framing.{Framing}
use Rattle.rs_request.specs.declared.framing.Framing.TheVariants.{Unstated, Length}
use Rattle.rs_reply.specs.declared.message.ReplyMessage.{ReplyMessage}
use Rattle.rs_request.specs.Framing.{stated}
use Rattle.rs_request.specs.Limits.{max_head}
use Rattle.rs_request.specs.Names.{same_name}
use Rattle.rs_reply.specs.Replied.{IsReadable, IsInterim}
use Rattle.rs_reply.specs.Replies.{reply_of}
use Rattle.rs_request.specs.Writing.{field_text, fields_text}
use Rattle.rs_reply.specs.Writing.{phrase_of, status_line, reply_head_text, reply_text, has_no_body, IsReplyBody, IsWritableReply}
use Rattle.rs_request.proofs.Cited.{IsField-from_tests}
use Rattle.rs_reply.proofs.Cited.{reply_head_lines}
use Rattle.httparse.specs.Grammar.{is_token_byte, trim_ows}
use Rattle.rs_exchange.specs.declared.answer.Answer.{Answer}
use Rattle.rs_exchange.specs.declared.answer.Answer.TheVariants.{Decided, Preflight, Refused, Made, Redirect}
use Rattle.rs_exchange.specs.declared.answer.Sheet.{Sheet}
use Rattle.rs_exchange.specs.declared.answer.Sheet.TheVariants.{Description, ConsentPage, DeniedPage}
use Rattle.rs_exchange.specs.declared.manner.Manner.{Manner}
use Rattle.rs_exchange.specs.declared.refusal.Methods.{Methods}
use Rattle.rs_exchange.specs.declared.refusal.Methods.TheVariants as methods
use Rattle.rs_exchange.specs.declared.refusal.Refusal.{Refusal}
use Rattle.rs_exchange.specs.declared.refusal.Refusal.TheVariants.{NotFound, NotAllowed, BadPath, BadCondition, BadKind, PartOnly, BadResource, BadAddress}
use Rattle.rs_exchange.specs.FixedReplies.{empty_field, interim_message, interim_bytes, starved_message, starved_bytes, closing_message, closing_bytes, closing_texts, fault_status, fault_bytes}
use Rattle.rs_exchange.specs.Lines.{lines_of, first_lines, last_lines, head_lines}
use Rattle.rs_exchange.specs.ReadBack.{IsSendable, IsSendableReply, IsReadBack, IsVersion, IsCountable, IsAddressLine}
use Rattle.rs_exchange.specs.Replies.{Outline, plain, named_field, tag_field, fresh_field, type_field, length_field, challenge_field, allow_field, origin_field, exposed_field, close_field, location_field, sheet_status, sheet_kind, preflight_fields, shown_fields, origin_fields, length_fields, close_fields, reply_outline, refusal_outline, outline_of, reply_by, reply_message, reply_bytes}
use Rattle.rs_exchange.specs.Targets.{method_list}
use Rattle.rs_exchange.proofs.FieldLemmas.{IsPlain, IsSized, ArePlain, AreFramed, IsKind, kind_parts, tag_is_plain, type_is_plain, length_is_sized, empty_is_sized, none_plain, more_plain, joined_plain, plain_framed, sized_framed}
use Rattle.rs_exchange.proofs.PartLemmas.{head_is}
use Rattle.rs_exchange.proofs.RoomLemmas.{tag_line_short, field_length, list_short, status_line_short, first_short, last_short}

-- ---- fields that are always the same

fresh_is_plain : IsPlain fresh_field
unfolding is_token_byte trim_ows same_name
fresh_is_plain = record { valid = refl; trimmed = refl; uncoded = refl; unsized = refl }

methods_are_plain : (m : Methods) → IsPlain (allow_field (method_list m))
unfolding is_token_byte trim_ows same_name method_list
methods_are_plain methods.Storage = record { valid = refl; trimmed = refl; uncoded = refl; unsized = refl }
methods_are_plain methods.Discovery = record { valid = refl; trimmed = refl; uncoded = refl; unsized = refl }
methods_are_plain methods.Grant = record { valid = refl; trimmed = refl; uncoded = refl; unsized = refl }

origin_is_plain : IsPlain origin_field
unfolding is_token_byte trim_ows same_name
origin_is_plain = record { valid = refl; trimmed = refl; uncoded = refl; unsized = refl }

exposed_is_plain : IsPlain exposed_field
unfolding is_token_byte trim_ows same_name
exposed_is_plain = record { valid = refl; trimmed = refl; uncoded = refl; unsized = refl }

close_is_plain : IsPlain close_field
unfolding is_token_byte trim_ows same_name
close_is_plain = record { valid = refl; trimmed = refl; uncoded = refl; unsized = refl }

no_token_is_plain : IsPlain (challenge_field (codes "Bearer realm=\"remotestorage\""))
unfolding is_token_byte trim_ows same_name
no_token_is_plain = record { valid = refl; trimmed = refl; uncoded = refl; unsized = refl }

bad_token_is_plain : IsPlain (challenge_field (codes "Bearer realm=\"remotestorage\", error=\"invalid_token\""))
unfolding is_token_byte trim_ows same_name
bad_token_is_plain = record { valid = refl; trimmed = refl; uncoded = refl; unsized = refl }

forbidden_is_plain : IsPlain (challenge_field (codes "Bearer realm=\"remotestorage\", error=\"insufficient_scope\""))
unfolding is_token_byte trim_ows same_name
forbidden_is_plain = record { valid = refl; trimmed = refl; uncoded = refl; unsized = refl }

allowed_methods_are_plain : IsPlain (named_field (codes "Access-Control-Allow-Methods") (codes "GET, HEAD, PUT, DELETE, OPTIONS"))
unfolding is_token_byte trim_ows same_name
allowed_methods_are_plain = record { valid = refl; trimmed = refl; uncoded = refl; unsized = refl }

allowed_headers_are_plain : IsPlain (named_field (codes "Access-Control-Allow-Headers") (codes "Authorization, Content-Type, Content-Length, If-Match, If-None-Match, Origin"))
unfolding is_token_byte trim_ows same_name
allowed_headers_are_plain = record { valid = refl; trimmed = refl; uncoded = refl; unsized = refl }

max_age_is_plain : IsPlain (named_field (codes "Access-Control-Max-Age") (codes "7200"))
unfolding is_token_byte trim_ows same_name
max_age_is_plain = record { valid = refl; trimmed = refl; uncoded = refl; unsized = refl }

preflight_are_plain : ArePlain preflight_fields
preflight_are_plain =
    more_plain _ _ allowed_methods_are_plain (more_plain _ _ allowed_headers_are_plain (more_plain _ _ max_age_is_plain none_plain))

one_plain : (f : Field) → IsPlain f → ArePlain (f ∷ [])
one_plain f p = more_plain f [] p none_plain

origin_are_plain : (shared : Bool) → ArePlain (origin_fields shared)
origin_are_plain true = more_plain _ _ origin_is_plain (one_plain _ exposed_is_plain)
origin_are_plain false = none_plain

close_are_plain : (closing : Bool) → ArePlain (close_fields closing)
close_are_plain true = one_plain _ close_is_plain
close_are_plain false = none_plain

-- ---- what an answer says

-- what an outline keeps to, so that its reply can be read back
record IsGood (it : Outline) : Type 0 where
  phrase : 0 < length (phrase_of it.status)
  final : it.status ≢ 100
  plain : ArePlain it.fields
  short : length (lines_of it.fields) ≤ 15100
  counted : IsCountable it.body
  empty : (it.status == 204 || it.status == 304) ≡ true → it.body ≡ []

three_long : (f g h : Field) → length (lines_of (f ∷ g ∷ h ∷ [])) ≡ length (field_text f) + (length (field_text g) + length (field_text h))
three_long f g h =
    let rest = length-append (field_text g) (field_text h ++ []) ∙ ap (λ (l : List ℕ). length (field_text g) + length l) (append-nil (field_text h)) in
    length-append (field_text f) (field_text g ++ (field_text h ++ [])) ∙ ap (λ (n : ℕ). length (field_text f) + n) rest

-- what is shown of a document or a folder
shown_is_good : (version : ℕ) (kind body : List ℕ) → IsVersion version → is_kind kind ≡ true → IsCountable body
    → IsGood (record { status = 200; fields = shown_fields version kind; body = body })
shown_is_good version kind body small is counted =
    let line = tag_line_short version small in
    let few = (kind_parts kind is).few in
    let all = field_length (type_field kind) in
    let lines = three_long (tag_field version) fresh_field (type_field kind) in record {
      phrase = omega arith;
      final = λ same. absurd (omega (arith, same));
      plain = more_plain _ _ (tag_is_plain version small) (more_plain _ _ fresh_is_plain (one_plain _ (type_is_plain kind is)));
      short = omega (arith, line, few, all, lines);
      counted = counted;
      empty = λ none. cc;
    }

-- a status with no fields of its own
bare_is_good : (status : ℕ) → 0 < length (phrase_of status) → status ≢ 100 → IsGood (plain status [])
bare_is_good status phrase final = record {
  phrase = phrase;
  final = final;
  plain = none_plain;
  short = omega arith;
  counted = omega arith;
  empty = λ none. refl;
}

-- a status with one field
field_is_good : (status : ℕ) (f : Field) → 0 < length (phrase_of status) → status ≢ 100 → IsPlain f → length (field_text f) ≤ 15100
    → IsGood (plain status (f ∷ []))
field_is_good status f phrase final p short = record {
  phrase = phrase;
  final = final;
  plain = one_plain f p;
  short = subst (λ (l : List ℕ). length l ≤ 15100) (sym (append-nil (field_text f))) short;
  counted = omega arith;
  empty = λ none. refl;
}

-- a status with an entity tag
tagged_is_good : (status version : ℕ) → 0 < length (phrase_of status) → status ≢ 100 → IsVersion version → IsGood (plain status (tag_field version ∷ []))
tagged_is_good status version phrase final small =
    field_is_good status (tag_field version) phrase final (tag_is_plain version small) (let short = tag_line_short version small in omega (arith, short))

same_is_good : (version : ℕ) → IsVersion version → IsGood (plain 304 (tag_field version ∷ fresh_field ∷ []))
same_is_good version small =
    let line = tag_line_short version small in record {
      phrase = omega arith;
      final = λ same. absurd (omega (arith, same));
      plain = more_plain _ _ (tag_is_plain version small) (one_plain _ fresh_is_plain);
      short = rw length-append (omega (arith, line));
      counted = omega arith;
      empty = λ none. refl;
    }

ld_json_is_kind : is_kind (codes "application/ld+json") ≡ true
ld_json_is_kind = refl

final_by : (status : ℕ) → 101 ≤ status → status ≢ 100
final_by status high same = absurd (omega (arith, same, high))

bare : (status : ℕ) → 0 < length (phrase_of status) → 101 ≤ status → IsGood (plain status [])
bare status phrase high = bare_is_good status phrase (final_by status high)

reply_is_good : (r : Reply) → IsSendableReply r → IsGood (reply_outline r)
reply_is_good (Found version kind body) s = shown_is_good version kind body s.0 s.1 s.2
reply_is_good (Folder version items) s = shown_is_good version (codes "application/ld+json") (folder_text items) s.0 ld_json_is_kind s.1
reply_is_good (Stored version true) s = tagged_is_good 201 version (omega arith) (final_by 201 (omega arith)) s
reply_is_good (Stored version false) s = tagged_is_good 200 version (omega arith) (final_by 200 (omega arith)) s
reply_is_good (Removed version) s = tagged_is_good 200 version (omega arith) (final_by 200 (omega arith)) s
reply_is_good (Same version) s = same_is_good version s
reply_is_good NoToken s = field_is_good 401 _ (omega arith) (final_by 401 (omega arith)) no_token_is_plain (omega arith)
reply_is_good BadToken s = field_is_good 401 _ (omega arith) (final_by 401 (omega arith)) bad_token_is_plain (omega arith)
reply_is_good Forbidden s = field_is_good 403 _ (omega arith) (final_by 403 (omega arith)) forbidden_is_plain (omega arith)
reply_is_good FolderWrite s = bare 400 (omega arith) (omega arith)
reply_is_good (Clash path) s = bare 409 (omega arith) (omega arith)
reply_is_good Absent s = bare 404 (omega arith) (omega arith)
reply_is_good Unmet s = bare 412 (omega arith) (omega arith)
reply_is_good RecordsFull s = bare 507 (omega arith) (omega arith)
reply_is_good (OverQuota live) s = bare 507 (omega arith) (omega arith)
reply_is_good (FolderFull path) s = bare 507 (omega arith) (omega arith)
reply_is_good StoreFailed s = bare 500 (omega arith) (omega arith)
reply_is_good Granted s = bare 500 (omega arith) (omega arith)
reply_is_good TokenTaken s = bare 500 (omega arith) (omega arith)
reply_is_good Revoked s = bare 500 (omega arith) (omega arith)
reply_is_good NotGranted s = bare 500 (omega arith) (omega arith)

refusal_is_good : (r : Refusal) → IsGood (refusal_outline r)
refusal_is_good NotFound = bare 404 (omega arith) (omega arith)
refusal_is_good (NotAllowed m) =
    let f = allow_field (method_list m) in
    let line = field_length f in
    let list = list_short m in
    field_is_good 405 f (omega arith) (final_by 405 (omega arith)) (methods_are_plain m) (omega (arith, line, list))
refusal_is_good BadPath = bare 400 (omega arith) (omega arith)
refusal_is_good BadCondition = bare 400 (omega arith) (omega arith)
refusal_is_good BadKind = bare 400 (omega arith) (omega arith)
refusal_is_good PartOnly = bare 400 (omega arith) (omega arith)
refusal_is_good BadResource = bare 400 (omega arith) (omega arith)
refusal_is_good BadAddress = bare 400 (omega arith) (omega arith)

-- a text that was made, with its content type
typed_is_good : (status : ℕ) (kind text : List ℕ) → 0 < length (phrase_of status) → 101 ≤ status → is_kind kind ≡ true
    → (status == 204 || status == 304) ≡ false → IsCountable text → IsGood (record { status = status; fields = type_field kind ∷ []; body = text })
typed_is_good status kind text phrase high is other counted =
    let few = (kind_parts kind is).few in
    let line = field_length (type_field kind) in record {
      phrase = phrase;
      final = final_by status high;
      plain = one_plain _ (type_is_plain kind is);
      short = subst (λ (l : List ℕ). length l ≤ 15100) (sym (append-nil (field_text (type_field kind)))) (omega (arith, few, line));
      counted = counted;
      empty = λ none. cc;
    }

sheet_is_good : (sheet : Sheet) (text : List ℕ) → IsCountable text → IsGood (outline_of (Made sheet text))
sheet_is_good Description text counted = typed_is_good 200 _ text (omega arith) (omega arith) refl refl counted
sheet_is_good ConsentPage text counted = typed_is_good 200 _ text (omega arith) (omega arith) refl refl counted
sheet_is_good DeniedPage text counted = typed_is_good 403 _ text (omega arith) (omega arith) refl refl counted

-- an address
location_is_plain : (address : List ℕ) → IsAddressLine address → IsPlain (location_field address)
unfolding is_token_byte same_name
location_is_plain address a = record { valid = a.valid; trimmed = a.trimmed; uncoded = refl; unsized = refl }

redirect_is_good : (address : List ℕ) → IsAddressLine address → IsGood (outline_of (Redirect address))
redirect_is_good address a =
    let line = field_length (location_field address) in
    let few = a.short in
    field_is_good 302 (location_field address) (omega arith) (final_by 302 (omega arith)) (location_is_plain address a) (omega (arith, line, few))

preflight_is_good : IsGood (plain 204 preflight_fields)
preflight_is_good = record {
  phrase = omega arith;
  final = λ same. absurd (omega (arith, same));
  plain = preflight_are_plain;
  short = omega arith;
  counted = omega arith;
  empty = λ none. refl;
}

answer_is_good : (a : Answer) → IsSendable a → IsGood (outline_of a)
answer_is_good (Decided r) s = reply_is_good r s
answer_is_good Preflight s = preflight_is_good
answer_is_good (Refused r) s = refusal_is_good r
answer_is_good (Made sheet text) s = sheet_is_good sheet text s
answer_is_good (Redirect address) s = redirect_is_good address s

-- ---- replies that can be read back

readable : (bodiless : Bool) (m : ReplyMessage) (framing : Framing) → 0 < length (phrase_of m.status) → AreFramed m.fields framing
    → (has_no_body bodiless m.status ≡ true → m.body ≡ []) → (has_no_body bodiless m.status ≡ false → IsReplyBody (Ok framing) m.body)
    → length (reply_head_text m) ≤ max_head → IsReadable bodiless m
readable bodiless m framing phrase fields empty framed short = record {
  writable = record {
    phrase = phrase;
    valid = IsField-from_tests _ fields.valid;
    trimmed = fields.trimmed;
    uncoded = fields.uncoded;
    framing = rw fields.framed refl;
    empty = empty;
    framed = λ some. rw fields.framed (framed some);
  };
  short = short;
}

-- the head of such a reply is short
head_short : (manner : Manner) (it : Outline) → IsGood it → length (reply_head_text (reply_by manner it)) ≤ max_head
head_short manner it g =
    let few = g.counted in
    let first = first_short manner.shared it.status 15100 it.fields g.short in
    let last = last_short manner.closing it.status (length it.body) (omega (arith, few)) in
    subst (λ (l : List ℕ). length l ≤ max_head) (head_is manner it) (rw length-append (omega (arith, first, last)))

-- its fields tell the length of its body, but for 204 and 304
answer_framed : (shared closing bare : Bool) (own : List Field) (size : ℕ) → ArePlain own → size < 10 ^ 18
    → AreFramed (origin_fields shared ++ (own ++ ((if bare then [] else length_field size ∷ []) ++ close_fields closing))) (if bare then Unstated else Length size)
answer_framed shared closing true own size p small =
    plain_framed _ (joined_plain _ _ (origin_are_plain shared) (joined_plain _ _ p (close_are_plain closing)))
answer_framed shared closing false own size p small =
    let before = joined_plain _ _ (origin_are_plain shared) p in
    subst (λ (fields : List Field). AreFramed fields (Length size)) (append_assoc (origin_fields shared) own (length_field size ∷ close_fields closing))
    (sized_framed (origin_fields shared ++ own) (close_fields closing) (length_field size) size before (length_is_sized size small) (close_are_plain closing))

-- what is sent of a body
none_sent : (bodiless bare : Bool) (body : List ℕ) → (bare ≡ true → body ≡ []) → (bodiless || bare) ≡ true → (if bodiless then [] else body) ≡ []
none_sent true bare body empty none = refl
none_sent false true body empty none = empty refl
none_sent false false body empty none = cc

all_sent : (bodiless bare : Bool) (body : List ℕ) → (bodiless || bare) ≡ false
    → IsReplyBody (Ok (if bare then Unstated else Length (length body))) (if bodiless then [] else body)
all_sent true bare body some = cc
all_sent false true body some = tt
all_sent false false body some = refl

-- the reply to an answer
answer_readable : (manner : Manner) (it : Outline) → IsGood it → IsReadable manner.bodiless (reply_by manner it)
answer_readable manner it g =
    let bare = it.status == 204 || it.status == 304 in
    readable manner.bodiless (reply_by manner it) (if bare then Unstated else Length (length it.body)) g.phrase
    (answer_framed manner.shared manner.closing bare it.fields (length it.body) g.plain g.counted) (none_sent manner.bodiless bare it.body g.empty)
    (all_sent manner.bodiless bare it.body) (head_short manner it g)

-- the head of a reply with few fields is short
fixed_short : (m : ReplyMessage) → length (fields_text m.fields) ≤ 1000 → length (reply_head_text m) ≤ max_head
fixed_short m short =
    let line = status_line_short m.status in
    subst (λ (l : List ℕ). length l ≤ max_head) (reply_head_lines m) (rw length-append (omega (arith, line, short)))

starved_short : (closing : Bool) → length (fields_text (starved_message closing).fields) ≤ 1000
starved_short true = omega arith
starved_short false = omega arith

-- the fixed replies
starved_readable : (bodiless closing : Bool) → IsReadable bodiless (starved_message closing)
starved_readable bodiless closing =
    let fields = sized_framed (origin_field ∷ []) (close_fields closing) empty_field 0 (one_plain _ origin_is_plain) empty_is_sized (close_are_plain closing) in
    readable bodiless (starved_message closing) (Length 0) (omega arith) fields (λ none. refl) (λ some. refl)
    (fixed_short (starved_message closing) (starved_short closing))

closing_readable : (bodiless : Bool) (status : ℕ) → 0 < length (phrase_of status) → IsReadable bodiless (closing_message status)
closing_readable bodiless status phrase =
    let before = more_plain _ _ origin_is_plain (one_plain _ exposed_is_plain) in
    let fields = sized_framed (origin_field ∷ exposed_field ∷ []) (close_field ∷ []) empty_field 0 before empty_is_sized (one_plain _ close_is_plain) in
    readable bodiless (closing_message status) (Length 0) phrase fields (λ none. refl) (λ some. refl)
    (fixed_short (closing_message status) (omega arith))

interim_is : (bodiless : Bool) → IsInterim bodiless interim_message
interim_is bodiless = record {
  readable = readable bodiless interim_message Unstated (omega arith) (plain_framed [] none_plain) (λ none. refl) (λ some. tt) (omega arith);
  status = refl;
  empty = refl;
}

-- a status with a phrase, and no interim one
abbrev is_answered : ℕ → Bool
is_answered status = nat_lt 0 (length (phrase_of status)) && nat_le 101 status

faults_answered : (why : WireWhy) → option_map_or is_answered (fault_status why) true ≡ true
faults_answered BadHead = refl
faults_answered HeadLong = refl
faults_answered TargetLong = refl
faults_answered BodyLong = refl
faults_answered BadLength = refl
faults_answered TwoLengths = refl
faults_answered BadChunk = refl
faults_answered Coding = refl
faults_answered Truncated = refl

-- ---- the laws

module _ (read : (bodiless : Bool) (m : ReplyMessage) → IsReadable bodiless m → m.status ≢ 100 → reply_of bodiless (reply_text m) ≡ Ok m)
    (skipped : (bodiless : Bool) (interims : List ReplyMessage) (m : ReplyMessage) → All (IsInterim bodiless) interims → IsReadable bodiless m
    → m.status ≢ 100 → reply_of bodiless (flat_map reply_text interims ++ reply_text m) ≡ Ok m) where
  both : (bodiless : Bool) (m : ReplyMessage) → IsReadable bodiless m → m.status ≢ 100 → IsReadBack bodiless (reply_text m) m
  unfolding interim_bytes
  both bodiless m r final =
      let one = All-cons (IsInterim bodiless) interim_message [] (interim_is bodiless) (All-nil (IsInterim bodiless)) in record {
        alone = read bodiless m r final;
        after_interim = ap (λ (l : List ℕ). reply_of bodiless (l ++ reply_text m)) (sym (append-nil (reply_text interim_message)))
            ∙ skipped bodiless (interim_message ∷ []) m one r final;
      }

  pub answer_read_back : (manner : Manner) (a : Answer) → IsSendable a → IsReadBack manner.bodiless (reply_bytes manner a) (reply_message manner a)
  unfolding reply_bytes
  answer_read_back manner a s =
      let g = answer_is_good a s in
      both manner.bodiless (reply_message manner a) (answer_readable manner (outline_of a) g) g.final

  pub starved_read_back : (bodiless closing : Bool) → IsReadBack bodiless (starved_bytes closing) (starved_message closing)
  unfolding starved_bytes
  starved_read_back bodiless closing = both bodiless (starved_message closing) (starved_readable bodiless closing) (final_by 503 (omega arith))

  closing_read_back : (bodiless : Bool) (status : ℕ) → 0 < length (phrase_of status) → 101 ≤ status → IsReadBack bodiless (closing_bytes status) (closing_message status)
  unfolding closing_bytes
  closing_read_back bodiless status phrase high =
      both bodiless (closing_message status) (closing_readable bodiless status phrase) (final_by status high)

  pub fault_read_back : (bodiless : Bool) (why : WireWhy) (status : ℕ) → fault_status why ≡ Some status
      → IsReadBack bodiless (fault_bytes why) (closing_message status)
  fault_read_back bodiless why status is =
      let known : is_answered status ≡ true = sym (ap (λ (o : Option ℕ). option_map_or is_answered o true) is) ∙ faults_answered why in
      let parts = and_parts (nat_lt 0 (length (phrase_of status))) (nat_le 101 status) known in
      subst (λ (l : List ℕ). IsReadBack bodiless l (closing_message status)) (sym (ap closing_texts is))
      (closing_read_back bodiless status (ltb-true _ _ parts.0) (leb-true _ _ parts.1))
