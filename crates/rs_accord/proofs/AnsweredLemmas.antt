-- What a server writes of a reply, read by a client.
use Rattle.std.proofs.Common.{◌≡◌, ℕ, ◌+◌, ◌-◌, ◌%◌, ◌==◌, ◌<◌, ◌^◌, Bool, true, false, ◌&&◌, if◌then◌else◌, List, [], ◌∷◌, ◌++◌, length, take, decimal, codes, Option, Some, None, Ok, is_some, unwrap_or, nat_le, refl, ap, ◌∙◌, subst, arith}
use Rattle.std.specs.List.{list_all}
use Rattle.std.proofs.lemmas.Bool.{cond-true, false≢true, and_from, le-leb}
use Rattle.std.proofs.lemmas.Bool.Decides.{nat_tests}
use Rattle.std.proofs.lemmas.Fmt.{decimal_by_steps, decimal_nonempty, length-decimal-le}
use Rattle.std.proofs.lemmas.List.{length-append, get_or_push}
use Rattle.std.proofs.lemmas.List.Folds.{list_all-append}
use Rattle.std.proofs.Math.Seq.{take-append_seam}
use Rattle.rs_path.specs.declared.entry.Entry.{Entry}
use Rattle.rs_path.specs.Items.{is_entry, is_item, is_ascending}
use Rattle.rs_path.specs.Kinds.{is_kind}
use Rattle.rs_path.specs.Paths.{Path}
use Rattle.rs_path.specs.Tags.{is_tag, has_no_quote}
use Rattle.rs_folder.specs.Descriptions.{folder_text}
use Rattle.rs_folder.specs.FolderReadings.{folder_reading}
use Rattle.rs_request.specs.declared.fault.WireWhy.{WireWhy}
use Rattle.rs_request.specs.declared.fault.WireWhy.TheVariants.{BadHead, HeadLong, TargetLong, BodyLong, BadLength, TwoLengths, BadChunk, Coding, Truncated}
use Rattle.rs_request.specs.Names.{same_name}
use Rattle.rs_reply.specs.declared.message.ReplyMessage.{ReplyMessage}
use Rattle.rs_reply.specs.Replies.{reply_of}
use Rattle.rs_rules.specs.declared.reply.Reply.{Reply}
use Rattle.rs_rules.specs.declared.reply.Reply.TheVariants as replies
use Rattle.rs_exchange.specs.declared.answer.Answer.TheVariants.{Decided}
use Rattle.rs_exchange.specs.declared.manner.Manner.{Manner}
use Rattle.rs_exchange.specs.FixedReplies.{starved_message, closing_message, fault_status}
use Rattle.rs_exchange.specs.ReadBack.{IsSendableReply}
use Rattle.rs_exchange.specs.Replies.{tag_field, length_field, shown_fields, origin_fields, close_fields, reply_message}
use Rattle.rs_talk.specs.declared.answer.Answer.{Answer}
use Rattle.rs_talk.specs.declared.answer.Answer.TheVariants as answers
use Rattle.rs_talk.specs.declared.ask.Ask.{Ask}
use Rattle.rs_talk.specs.declared.ask.Ask.TheVariants as asks
use Rattle.rs_talk.specs.AnswerReadings.{is_quoted, inside, strong_tag, tag_shown, kind_in, kind_shown, document_read, items_read, listing_read, stored_read, judged, answer_at, answer_of_reply, answer_reading}
use Rattle.rs_talk.specs.Asks.{strong_text}
use Rattle.rs_talk.specs.ReplyAnswers.{may_answer, answer_given}
use Rattle.rs_accord.specs.Listed.{AreItems, IsListed}

-- ---- entity tags

one_digit : (n : ℕ) → n < 10 → has_no_quote ((48 + n) ∷ []) ≡ true
one_digit n small = grind (arith, nat_tests)

more_digits : (n : ℕ) (ds : List ℕ) → has_no_quote ds ≡ true → has_no_quote (ds ++ ((48 + n % 10) ∷ [])) ≡ true
more_digits n ds clean = rw list_all-append (grind (arith, nat_tests))

no_quote : (n : ℕ) → n < 2 ^ 64 → has_no_quote (decimal n) ≡ true
no_quote n small = decimal_by_steps (λ _ ds. has_no_quote ds ≡ true) one_digit (λ n ds _ clean. more_digits n ds clean) n small

-- a version in decimal is a tag
pub decimal_tag : (n : ℕ) → n < 2 ^ 64 → is_tag (decimal n) ≡ true
decimal_tag n small =
    let some = decimal_nonempty n small in
    let short = length-decimal-le 20 n in
    let clean = no_quote n small in
    grind (arith, nat_tests)

-- a text in quotes
strong_length : (tag : List ℕ) → length (strong_text tag) ≡ length tag + 2
strong_length tag = omega (arith, length-append tag (34 ∷ []))

strong_quoted : (tag : List ℕ) → is_quoted (strong_text tag) ≡ true
strong_quoted tag =
    let last = get_or_push (34 ∷ tag) 34 0 (length (strong_text tag) - 1) (omega (arith, strong_length tag)) in
    and_from (nat_le 2 (length (strong_text tag))) _ (le-leb _ _ (omega (arith, strong_length tag)))
    (and_from (34 == 34) _ refl (ap (λ (b : ℕ). b == 34) last))

strong_inside : (tag : List ℕ) → inside (strong_text tag) ≡ tag
strong_inside tag =
    let count : length (strong_text tag) - 1 - 1 ≡ length tag = omega (arith, strong_length tag) in
    ap (λ (n : ℕ). take n (tag ++ 34 ∷ [])) count ∙ take-append_seam tag (34 ∷ [])

-- a tag in its quotes is read as that tag
pub strong_back : (tag : List ℕ) → is_tag tag ≡ true → strong_tag (strong_text tag) ≡ Some tag
strong_back tag is =
    cond-true (is_quoted (strong_text tag) && is_tag (inside (strong_text tag))) (Some (inside (strong_text tag))) None
    (and_from _ _ (strong_quoted tag) (ap is_tag (strong_inside tag) ∙ is))
    ∙ ap Some (strong_inside tag)

-- ---- fields

-- the tag among the fields of what is shown
tag_found : (shared closing : Bool) (version size : ℕ) (kind : List ℕ)
    → tag_shown (origin_fields shared ++ (shown_fields version kind ++ (length_field size ∷ close_fields closing))) ≡ strong_tag (strong_text (decimal version))
unfolding same_name
tag_found true true version size kind = refl
tag_found true false version size kind = refl
tag_found false true version size kind = refl
tag_found false false version size kind = refl

kind_found : (shared closing : Bool) (version size : ℕ) (kind : List ℕ)
    → kind_shown (origin_fields shared ++ (shown_fields version kind ++ (length_field size ∷ close_fields closing))) ≡ kind_in kind
unfolding same_name
kind_found true true version size kind = refl
kind_found true false version size kind = refl
kind_found false true version size kind = refl
kind_found false false version size kind = refl

-- and of what was stored
tag_kept : (shared closing : Bool) (version size : ℕ)
    → tag_shown (origin_fields shared ++ (tag_field version ∷ (length_field size ∷ close_fields closing))) ≡ strong_tag (strong_text (decimal version))
unfolding same_name
tag_kept true true version size = refl
tag_kept true false version size = refl
tag_kept false true version size = refl
tag_kept false false version size = refl

-- ---- replies with content

Back : Type 0
Back = (items : List Entry) → is_ascending items ≡ true → list_all is_item items ≡ true → list_all is_entry items ≡ true
    → folder_reading (folder_text items) ≡ Ok items

document_said : (manner : Manner) (version : ℕ) (kind body : List ℕ) → manner.bodiless ≡ false → version < 2 ^ 64 → is_kind kind ≡ true
    → (let m = reply_message manner (Decided (replies.Found version kind body)) in document_read (tag_shown m.fields) (kind_shown m.fields) m.body)
    ≡ Ok (answers.Document (record { tag = decimal version; kind = kind; body = body }))
document_said manner version kind body whole small is =
    let m = reply_message manner (Decided (replies.Found version kind body)) in
    ap (λ (tag : Option (List ℕ)). document_read tag (kind_shown m.fields) m.body)
    (tag_found manner.shared manner.closing version (length body) kind ∙ strong_back (decimal version) (decimal_tag version small))
    ∙ ap (λ (k : Option (List ℕ)). document_read (Some (decimal version)) k m.body)
    (kind_found manner.shared manner.closing version (length body) kind ∙ cond-true (is_kind kind) (Some kind) None is)
    ∙ ap (λ (none : Bool). Ok (answers.Document (record { tag = decimal version; kind = kind; body = if none then [] else body }))) whole

listing_said : (manner : Manner) (version : ℕ) (items : List Entry) → manner.bodiless ≡ false → version < 2 ^ 64 → AreItems items → Back
    → (let m = reply_message manner (Decided (replies.Folder version items)) in listing_read (tag_shown m.fields) m.body)
    ≡ Ok (answers.Listing (decimal version) items)
unfolding Back
listing_said manner version items whole small are back =
    let m = reply_message manner (Decided (replies.Folder version items)) in
    ap (λ (tag : Option (List ℕ)). listing_read tag m.body)
    (tag_found manner.shared manner.closing version (length (folder_text items)) (codes "application/ld+json")
    ∙ strong_back (decimal version) (decimal_tag version small))
    ∙ ap (λ (none : Bool). items_read (decimal version) (folder_reading (if none then [] else folder_text items))) whole
    ∙ ap (items_read (decimal version)) (back items are.ascending are.plain are.parts)

stored_said : (manner : Manner) (version : ℕ) (created : Bool) → version < 2 ^ 64
    → stored_read (tag_shown (origin_fields manner.shared ++ (tag_field version ∷ (length_field 0 ∷ close_fields manner.closing)))) created
    ≡ Ok (answers.Stored (decimal version) created)
stored_said manner version created small =
    ap (λ (tag : Option (List ℕ)). stored_read tag created)
    (tag_kept manner.shared manner.closing version 0 ∙ strong_back (decimal version) (decimal_tag version small))

-- ---- each reply to each ask

same_folder : (manner : Manner) (path : Path) (known : Option (List ℕ)) (version : ℕ) → is_some known ≡ true
    → judged (asks.Folder path known) (reply_message manner (Decided (replies.Same version))) ≡ Ok answers.Same
same_folder manner path None version may = absurd (false≢true may)
same_folder manner path (Some tag) version may = refl

same_document : (manner : Manner) (path : Path) (known : Option (List ℕ)) (version : ℕ) → is_some known ≡ true
    → judged (asks.Document path known) (reply_message manner (Decided (replies.Same version))) ≡ Ok answers.Same
same_document manner path None version may = absurd (false≢true may)
same_document manner path (Some tag) version may = refl

to_folder : (manner : Manner) (path : Path) (known : Option (List ℕ)) (reply : Reply) → manner.bodiless ≡ false → may_answer (asks.Folder path known) reply ≡ true → IsSendableReply reply → IsListed reply → Back
    → judged (asks.Folder path known) (reply_message manner (Decided reply)) ≡ Ok (answer_given (asks.Folder path known) reply)
to_folder manner path known (replies.Found version kind body) whole may sends listed back = absurd (false≢true may)
to_folder manner path known (replies.Folder version items) whole may sends listed back = listing_said manner version items whole sends.0 listed back
to_folder manner path known (replies.Stored version created) whole may sends listed back = absurd (false≢true may)
to_folder manner path known (replies.Removed version) whole may sends listed back = absurd (false≢true may)
to_folder manner path known (replies.Same version) whole may sends listed back = same_folder manner path known version may
to_folder manner path known replies.NoToken whole may sends listed back = refl
to_folder manner path known replies.BadToken whole may sends listed back = refl
to_folder manner path known replies.Forbidden whole may sends listed back = refl
to_folder manner path known replies.FolderWrite whole may sends listed back = refl
to_folder manner path known (replies.Clash clash) whole may sends listed back = refl
to_folder manner path known replies.Absent whole may sends listed back = refl
to_folder manner path known replies.Unmet whole may sends listed back = refl
to_folder manner path known replies.RecordsFull whole may sends listed back = refl
to_folder manner path known (replies.OverQuota live) whole may sends listed back = refl
to_folder manner path known (replies.FolderFull full) whole may sends listed back = refl
to_folder manner path known replies.StoreFailed whole may sends listed back = refl
to_folder manner path known replies.Granted whole may sends listed back = refl
to_folder manner path known replies.TokenTaken whole may sends listed back = refl
to_folder manner path known replies.Revoked whole may sends listed back = refl
to_folder manner path known replies.NotGranted whole may sends listed back = refl

to_document : (manner : Manner) (path : Path) (known : Option (List ℕ)) (reply : Reply) → manner.bodiless ≡ false → may_answer (asks.Document path known) reply ≡ true → IsSendableReply reply → IsListed reply → Back
    → judged (asks.Document path known) (reply_message manner (Decided reply)) ≡ Ok (answer_given (asks.Document path known) reply)
to_document manner path known (replies.Found version kind body) whole may sends listed back = document_said manner version kind body whole sends.0 sends.1
to_document manner path known (replies.Folder version items) whole may sends listed back = absurd (false≢true may)
to_document manner path known (replies.Stored version created) whole may sends listed back = absurd (false≢true may)
to_document manner path known (replies.Removed version) whole may sends listed back = absurd (false≢true may)
to_document manner path known (replies.Same version) whole may sends listed back = same_document manner path known version may
to_document manner path known replies.NoToken whole may sends listed back = refl
to_document manner path known replies.BadToken whole may sends listed back = refl
to_document manner path known replies.Forbidden whole may sends listed back = refl
to_document manner path known replies.FolderWrite whole may sends listed back = refl
to_document manner path known (replies.Clash clash) whole may sends listed back = refl
to_document manner path known replies.Absent whole may sends listed back = refl
to_document manner path known replies.Unmet whole may sends listed back = refl
to_document manner path known replies.RecordsFull whole may sends listed back = refl
to_document manner path known (replies.OverQuota live) whole may sends listed back = refl
to_document manner path known (replies.FolderFull full) whole may sends listed back = refl
to_document manner path known replies.StoreFailed whole may sends listed back = refl
to_document manner path known replies.Granted whole may sends listed back = refl
to_document manner path known replies.TokenTaken whole may sends listed back = refl
to_document manner path known replies.Revoked whole may sends listed back = refl
to_document manner path known replies.NotGranted whole may sends listed back = refl

to_put : (manner : Manner) (path : Path) (base : Option (List ℕ)) (kind body : List ℕ) (reply : Reply) → manner.bodiless ≡ false → may_answer (asks.Put path base kind body) reply ≡ true → IsSendableReply reply → IsListed reply → Back
    → judged (asks.Put path base kind body) (reply_message manner (Decided reply)) ≡ Ok (answer_given (asks.Put path base kind body) reply)
to_put manner path base kind body (replies.Found version shown text) whole may sends listed back = absurd (false≢true may)
to_put manner path base kind body (replies.Folder version items) whole may sends listed back = absurd (false≢true may)
to_put manner path base kind body (replies.Stored version true) whole may sends listed back = stored_said manner version true sends
to_put manner path base kind body (replies.Stored version false) whole may sends listed back = stored_said manner version false sends
to_put manner path base kind body (replies.Removed version) whole may sends listed back = absurd (false≢true may)
to_put manner path base kind body (replies.Same version) whole may sends listed back = absurd (false≢true may)
to_put manner path base kind body replies.NoToken whole may sends listed back = refl
to_put manner path base kind body replies.BadToken whole may sends listed back = refl
to_put manner path base kind body replies.Forbidden whole may sends listed back = refl
to_put manner path base kind body replies.FolderWrite whole may sends listed back = refl
to_put manner path base kind body (replies.Clash clash) whole may sends listed back = refl
to_put manner path base kind body replies.Absent whole may sends listed back = refl
to_put manner path base kind body replies.Unmet whole may sends listed back = refl
to_put manner path base kind body replies.RecordsFull whole may sends listed back = refl
to_put manner path base kind body (replies.OverQuota live) whole may sends listed back = refl
to_put manner path base kind body (replies.FolderFull full) whole may sends listed back = refl
to_put manner path base kind body replies.StoreFailed whole may sends listed back = refl
to_put manner path base kind body replies.Granted whole may sends listed back = refl
to_put manner path base kind body replies.TokenTaken whole may sends listed back = refl
to_put manner path base kind body replies.Revoked whole may sends listed back = refl
to_put manner path base kind body replies.NotGranted whole may sends listed back = refl

to_remove : (manner : Manner) (path : Path) (base : List ℕ) (reply : Reply) → manner.bodiless ≡ false → may_answer (asks.Remove path base) reply ≡ true → IsSendableReply reply → IsListed reply → Back
    → judged (asks.Remove path base) (reply_message manner (Decided reply)) ≡ Ok (answer_given (asks.Remove path base) reply)
to_remove manner path base (replies.Found version kind body) whole may sends listed back = absurd (false≢true may)
to_remove manner path base (replies.Folder version items) whole may sends listed back = absurd (false≢true may)
to_remove manner path base (replies.Stored version created) whole may sends listed back = absurd (false≢true may)
to_remove manner path base (replies.Removed version) whole may sends listed back = refl
to_remove manner path base (replies.Same version) whole may sends listed back = absurd (false≢true may)
to_remove manner path base replies.NoToken whole may sends listed back = refl
to_remove manner path base replies.BadToken whole may sends listed back = refl
to_remove manner path base replies.Forbidden whole may sends listed back = refl
to_remove manner path base replies.FolderWrite whole may sends listed back = refl
to_remove manner path base (replies.Clash clash) whole may sends listed back = refl
to_remove manner path base replies.Absent whole may sends listed back = refl
to_remove manner path base replies.Unmet whole may sends listed back = refl
to_remove manner path base replies.RecordsFull whole may sends listed back = refl
to_remove manner path base (replies.OverQuota live) whole may sends listed back = refl
to_remove manner path base (replies.FolderFull full) whole may sends listed back = refl
to_remove manner path base replies.StoreFailed whole may sends listed back = refl
to_remove manner path base replies.Granted whole may sends listed back = refl
to_remove manner path base replies.TokenTaken whole may sends listed back = refl
to_remove manner path base replies.Revoked whole may sends listed back = refl
to_remove manner path base replies.NotGranted whole may sends listed back = refl

said : (manner : Manner) (ask : Ask) (reply : Reply) → manner.bodiless ≡ false → may_answer ask reply ≡ true → IsSendableReply reply → IsListed reply → Back
    → judged ask (reply_message manner (Decided reply)) ≡ Ok (answer_given ask reply)
said manner (asks.Folder path known) reply whole may sends listed back = to_folder manner path known reply whole may sends listed back
said manner (asks.Document path known) reply whole may sends listed back = to_document manner path known reply whole may sends listed back
said manner (asks.Put path base kind body) reply whole may sends listed back = to_put manner path base kind body reply whole may sends listed back
said manner (asks.Remove path base) reply whole may sends listed back = to_remove manner path base reply whole may sends listed back

-- the bytes of a reply that says this
pub read_by : (ask : Ask) (bytes : List ℕ) (m : ReplyMessage) (answer : Answer) → reply_of false bytes ≡ Ok m → judged ask m ≡ Ok answer
    → answer_reading ask bytes ≡ Ok answer
read_by ask bytes m answer is says = ap (answer_of_reply ask bytes) is ∙ ap (answer_at bytes) says

pub decided_read : (manner : Manner) (ask : Ask) (reply : Reply) (bytes : List ℕ)
    → ((items : List Entry) → is_ascending items ≡ true → list_all is_item items ≡ true → list_all is_entry items ≡ true → folder_reading (folder_text items) ≡ Ok items)
    → manner.bodiless ≡ false → may_answer ask reply ≡ true → IsSendableReply reply → IsListed reply
    → reply_of false bytes ≡ Ok (reply_message manner (Decided reply)) → answer_reading ask bytes ≡ Ok (answer_given ask reply)
unfolding Back
decided_read manner ask reply bytes back whole may sends listed is =
    read_by ask bytes (reply_message manner (Decided reply)) (answer_given ask reply) is (said manner ask reply whole may sends listed back)

-- ---- replies that are always the same

pub starved_said : (closing : Bool) (ask : Ask) → judged ask (starved_message closing) ≡ Ok (answers.Status 503)
starved_said closing (asks.Folder path known) = refl
starved_said closing (asks.Document path known) = refl
starved_said closing (asks.Put path base kind body) = refl
starved_said closing (asks.Remove path base) = refl

said_400 : (ask : Ask) → judged ask (closing_message 400) ≡ Ok (answers.Status 400)
said_400 (asks.Folder path known) = refl
said_400 (asks.Document path known) = refl
said_400 (asks.Put path base kind body) = refl
said_400 (asks.Remove path base) = refl

said_413 : (ask : Ask) → judged ask (closing_message 413) ≡ Ok (answers.Status 413)
said_413 (asks.Folder path known) = refl
said_413 (asks.Document path known) = refl
said_413 (asks.Put path base kind body) = refl
said_413 (asks.Remove path base) = refl

said_414 : (ask : Ask) → judged ask (closing_message 414) ≡ Ok (answers.Status 414)
said_414 (asks.Folder path known) = refl
said_414 (asks.Document path known) = refl
said_414 (asks.Put path base kind body) = refl
said_414 (asks.Remove path base) = refl

said_431 : (ask : Ask) → judged ask (closing_message 431) ≡ Ok (answers.Status 431)
said_431 (asks.Folder path known) = refl
said_431 (asks.Document path known) = refl
said_431 (asks.Put path base kind body) = refl
said_431 (asks.Remove path base) = refl

said_501 : (ask : Ask) → judged ask (closing_message 501) ≡ Ok (answers.Status 501)
said_501 (asks.Folder path known) = refl
said_501 (asks.Document path known) = refl
said_501 (asks.Put path base kind body) = refl
said_501 (asks.Remove path base) = refl

by_status : (ask : Ask) (one status : ℕ) → Some one ≡ Some status → judged ask (closing_message one) ≡ Ok (answers.Status one)
    → judged ask (closing_message status) ≡ Ok (answers.Status status)
by_status ask one status same says =
    subst (λ (n : ℕ). judged ask (closing_message n) ≡ Ok (answers.Status n)) (ap (λ (o : Option ℕ). unwrap_or o 0) same) says

pub refused_said : (ask : Ask) (why : WireWhy) (status : ℕ) → fault_status why ≡ Some status → judged ask (closing_message status) ≡ Ok (answers.Status status)
refused_said ask BadHead status is = by_status ask 400 status is (said_400 ask)
refused_said ask HeadLong status is = by_status ask 431 status is (said_431 ask)
refused_said ask TargetLong status is = by_status ask 414 status is (said_414 ask)
refused_said ask BodyLong status is = by_status ask 413 status is (said_413 ask)
refused_said ask BadLength status is = by_status ask 400 status is (said_400 ask)
refused_said ask TwoLengths status is = by_status ask 400 status is (said_400 ask)
refused_said ask BadChunk status is = by_status ask 400 status is (said_400 ask)
refused_said ask Coding status is = by_status ask 501 status is (said_501 ask)
refused_said ask Truncated status is = absurd (cc)
