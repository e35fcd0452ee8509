-- The heads of replies without a body of their own are short.
use Rattle.std.proofs.Common.{◌≡◌, ℕ, ◌+◌, ◌<◌, ◌≤◌, ◌^◌, ◌==◌, ◌||◌, Bool, true, false, cond, eqb, List, [], ◌∷◌, length, decimal, nat_le, codes, arith, Result, Ok, Err, OnErr, refl, sym, subst, ◌∙◌}
use Rattle.std.proofs.lemmas.Bool.Decides.{nat_tests}
use Rattle.std.proofs.lemmas.Fmt.{length-decimal-le}
use Rattle.std.proofs.lemmas.List.{length-append}
use Rattle.rs_rules.specs.declared.reply.Reply.TheVariants.{Found, Folder, Stored, Removed, Same, NoToken, BadToken, Forbidden, FolderWrite, Clash, Absent, Unmet, RecordsFull, OverQuota, FolderFull, StoreFailed, Granted, TokenTaken, Revoked, NotGranted}
use Rattle.rs_request.specs.declared.field.Field.{Field}
use Rattle.rs_request.specs.Writing.{field_text}
use Rattle.rs_reply.specs.Writing.{phrase_of, status_line}
use Rattle.rs_exchange.specs.declared.answer.Answer.{Answer}
use Rattle.rs_exchange.specs.declared.answer.Answer.TheVariants.{Decided, Preflight, Refused, Made, Redirect}
use Rattle.rs_exchange.specs.declared.outline.OwnFields.{OwnFields}
use Rattle.rs_exchange.specs.declared.outline.OwnFields.TheVariants as own
use Rattle.rs_exchange.specs.declared.refusal.Methods.{Methods}
use Rattle.rs_exchange.specs.declared.refusal.Methods.TheVariants as methods
use Rattle.rs_exchange.specs.declared.refusal.Refusal.TheVariants.{NotFound, NotAllowed, BadPath, BadCondition, BadKind, PartOnly, BadResource, BadAddress}
use Rattle.rs_exchange.specs.Lines.{lines_of, first_lines, last_lines}
use Rattle.rs_exchange.specs.Outlines.{own_fields, is_shown, IsShort}
use Rattle.rs_exchange.specs.Replies.{tag_field, length_field, origin_fields, length_fields, close_fields, outline_of, has_content}
use Rattle.rs_exchange.specs.Targets.{method_list}

-- ---- the parts

pub field_length : (f : Field) → length (field_text f) ≡ length f.name + (2 + (length f.value + 2))
field_length f = rw (length-append, length-append, length-append) refl

-- an entity tag has at most 20 digits
pub tag_line_short : (version : ℕ) → version < 2 ^ 64 → length (field_text (tag_field version)) ≤ 40
tag_line_short version small =
    let digits : length (decimal version) ≤ 20 = length-decimal-le 20 version (omega arith) (omega arith) small in
    rw (length-append, length-append, length-append, length-append, length-append) (omega (arith, digits))

within : (n : ℕ) → nat_le n 40 ≡ true → n ≤ 40
within n is = grind (arith, nat_tests)

-- a text of at most 40 bytes
record ShortText (text : List ℕ) : Type 0 where
  short : length text ≤ 40

phrase_by : (s k : ℕ) (text later : List ℕ) → nat_le (length text) 40 ≡ true → ShortText later → ShortText (cond (eqb s k) text later)
phrase_by s k text later here there = by_test (eqb s k)
  where
    by_test : (b : Bool) → ShortText (cond b text later)
    by_test true = record { short = within (length text) here }
    by_test false = there

none_short : ShortText []
none_short = record { short = omega arith }

all_short : (status : ℕ) → ShortText (phrase_of status)
all_short status =
    phrase_by status 100 _ _ refl (phrase_by status 200 _ _ refl (phrase_by status 201 _ _ refl
    (phrase_by status 204 _ _ refl (phrase_by status 302 _ _ refl (phrase_by status 304 _ _ refl
    (phrase_by status 400 _ _ refl (phrase_by status 401 _ _ refl (phrase_by status 403 _ _ refl
    (phrase_by status 404 _ _ refl (phrase_by status 405 _ _ refl (phrase_by status 409 _ _ refl
    (phrase_by status 412 _ _ refl (phrase_by status 413 _ _ refl (phrase_by status 414 _ _ refl
    (phrase_by status 431 _ _ refl (phrase_by status 500 _ _ refl (phrase_by status 501 _ _ refl
    (phrase_by status 503 _ _ refl (phrase_by status 507 _ _ refl none_short)))))))))))))))))))

phrase_short : (status : ℕ) → length (phrase_of status) ≤ 40
phrase_short status = (all_short status).short

pub status_line_short : (status : ℕ) → length (status_line status) ≤ 60
unfolding status_line
status_line_short status =
    rw (length-append, length-append, length-append) (let short = phrase_short status in omega (arith, short))

origin_short : (shared : Bool) → length (lines_of (origin_fields shared)) ≤ 130
origin_short true = omega arith
origin_short false = omega arith

pub list_short : (m : Methods) → length (method_list m) ≤ 40
unfolding method_list
list_short methods.Storage = omega arith
list_short methods.Discovery = omega arith
list_short methods.Grant = omega arith

-- an answer that shows nothing has few fields of its own
own_short : (f : OwnFields) → is_shown f ≡ false → IsShort f → length (lines_of (own_fields f)) ≤ 400
own_short own.Nothing plain short = omega arith
own_short (own.Tag version) plain short = rw (length-append) (omega (arith, short))
own_short (own.Same version) plain short = rw (length-append) (omega (arith, short))
own_short (own.Shown version kind) plain short = grind arith
own_short (own.Challenge text) plain short =
    rw (length-append) (let all = field_length (record { name = codes "WWW-Authenticate"; value = text.now }) in omega (arith, all, short))
own_short (own.Allow m) plain short =
    let listed = list_short m in
    rw (length-append) (let all = field_length (record { name = codes "Allow"; value = method_list m }) in omega (arith, all, listed))
own_short own.Preflight plain short = omega arith
own_short (own.Typed kind) plain short = grind arith
own_short (own.Location address) plain short = grind arith

length_short : (status size : ℕ) → size < 2 ^ 64 → length (lines_of (length_fields status size)) ≤ 60
length_short status size small = by_test (status == 204 || status == 304)
  where
    by_test : (b : Bool) → length (lines_of (cond b [] (length_field size ∷ []))) ≤ 60
    by_test true = omega arith
    by_test false =
        let digits : length (decimal size) ≤ 20 = length-decimal-le 20 size (omega arith) (omega arith) small in
        rw (length-append, field_length (length_field size)) (omega (arith, digits))

close_short : (closing : Bool) → length (lines_of (close_fields closing)) ≤ 40
close_short true = omega arith
close_short false = omega arith

-- ---- whole heads

pub first_short : (shared : Bool) (status most : ℕ) (own : List Field) → length (lines_of own) ≤ most → length (first_lines shared status own) ≤ 200 + most
unfolding first_lines
first_short shared status most own short =
    let line = status_line_short status in
    let origin = origin_short shared in
    rw (length-append, length-append) (omega (arith, line, origin, short))

pub last_short : (closing : Bool) (status size : ℕ) → size < 2 ^ 64 → length (last_lines closing status size) ≤ 120
unfolding last_lines
last_short closing status size small =
    let size = length_short status size small in
    let close = close_short closing in
    rw (length-append, length-append) (omega (arith, size, close))

-- what is false of a test isn't, so the test holds
true_unless : (b : Bool) → ¬ (b ≡ false) → b ≡ true
true_unless true other = refl
true_unless false other = elim (other refl) [ ]

-- an answer that shows nothing has no body
no_body : (a : Answer) → has_content a ≡ false → length (outline_of a).body ≡ 0
no_body (Decided (Found version kind body)) none = grind arith
no_body (Decided (Folder version items)) none = grind arith
no_body (Decided (Stored version created)) none = refl
no_body (Decided (Removed version)) none = refl
no_body (Decided (Same version)) none = refl
no_body (Decided NoToken) none = refl
no_body (Decided BadToken) none = refl
no_body (Decided Forbidden) none = refl
no_body (Decided FolderWrite) none = refl
no_body (Decided (Clash path)) none = refl
no_body (Decided Absent) none = refl
no_body (Decided Unmet) none = refl
no_body (Decided RecordsFull) none = refl
no_body (Decided (OverQuota live)) none = refl
no_body (Decided (FolderFull path)) none = refl
no_body (Decided StoreFailed) none = refl
no_body (Decided Granted) none = refl
no_body (Decided TokenTaken) none = refl
no_body (Decided Revoked) none = refl
no_body (Decided NotGranted) none = refl
no_body Preflight none = refl
no_body (Refused NotFound) none = refl
no_body (Refused (NotAllowed m)) none = refl
no_body (Refused BadPath) none = refl
no_body (Refused BadCondition) none = refl
no_body (Refused BadKind) none = refl
no_body (Refused PartOnly) none = refl
no_body (Refused BadResource) none = refl
no_body (Refused BadAddress) none = refl
no_body (Made sheet text) none = grind arith
no_body (Redirect address) none = grind arith

-- where the lines up to the answer's own didn't fit, the answer has a body of its own
pub too_long_first : (shared : Bool) (status : ℕ) (f : OwnFields) (a : Answer) (capacity before : ℕ) → 1024 ≤ capacity → before ≡ 0
    → is_shown f ≡ has_content a → IsShort f → capacity < before + length (first_lines shared status (own_fields f)) → has_content a ≡ true
too_long_first shared status f a capacity before room empty shows short long =
    true_unless (has_content a) (λ none.
    let first = first_short shared status 400 (own_fields f) (own_short f (shows ∙ none) short) in
    omega (arith, room, empty, first, long))

-- the same where those behind it didn't fit
pub too_long_last : (shared closing : Bool) (status size : ℕ) (f : OwnFields) (a : Answer) (capacity before : ℕ) → 1024 ≤ capacity
    → before ≡ length (first_lines shared status (own_fields f)) → is_shown f ≡ has_content a → IsShort f → size ≡ length (outline_of a).body
    → capacity < before + length (last_lines closing status size) → has_content a ≡ true
too_long_last shared closing status size f a capacity before room is shows short sized long =
    true_unless (has_content a) (λ none.
    let first = first_short shared status 400 (own_fields f) (own_short f (shows ∙ none) short) in
    let last = subst (λ (n : ℕ). length (last_lines closing status n) ≤ 120) (sym (sized ∙ no_body a none)) (last_short closing status 0 (omega arith)) in
    omega (arith, room, is, first, last, long))

-- what holds, holds of an error
pub on_err : {A E : Type 0} {P : Type 0} (r : Result A E) → P → OnErr r P
on_err (Ok x) holds = tt
on_err (Err e) holds = holds
