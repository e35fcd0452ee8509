-- What the fields of a head say of the body (RFC 9112, section 6).
use Rattle.std.specs.Prelude.{ℕ, Bool, true, false, not, ◌&&◌, ◌||◌, ◌==◌, nat_lt, nat_le, if◌then◌else◌, List, length, Option, Result, Ok, Err, codes, count_by, bytes_eq}
use Rattle.std.specs.List.{list_all, list_any, find}
use Rattle.std.specs.Option.{option_map_or}
use Rattle.std.specs.Char.{is_ascii_digit}
use Rattle.std.specs.Str.Parse.{digits_value}
use Rattle.rs_request.specs.declared.field.Field.{Field}
use Rattle.rs_request.specs.declared.fault.WireWhy.{WireWhy}
use Rattle.rs_request.specs.declared.fault.WireWhy.TheVariants.{BadHead, TargetLong, BodyLong, BadLength, TwoLengths, Coding}
use Rattle.rs_request.specs.declared.framing.Framing.{Framing}
use Rattle.rs_request.specs.declared.framing.Framing.TheVariants.{Unstated, Length, Chunked}
use Rattle.rs_path.specs.Limits.{max_body}
use Rattle.rs_request.specs.Limits.{max_length_digits, max_target}
use Rattle.rs_request.specs.Names.{is_field_named, says}
use Rattle.rs_request.specs.Items.{lists}

abbrev pub is_coding : Field → Bool
is_coding f = is_field_named (codes "transfer-encoding") f

abbrev pub is_length_field : Field → Bool
is_length_field f = is_field_named (codes "content-length") f

-- a length is digits, one at least and max_length_digits at most
unfoldable pub is_length : List ℕ → Bool
is_length text = nat_lt 0 (length text)
    && (nat_le (length text) max_length_digits && list_all is_ascii_digit text)

-- two texts of Content-Length are the same: as numbers where both are lengths, and as texts
-- otherwise
unfoldable pub same_length : List ℕ → List ℕ → Bool
same_length a b =
    if is_length a && is_length b then digits_value 10 a == digits_value 10 b else bytes_eq a b

-- the field is a Content-Length of another text
abbrev pub differs_from : Field → Field → Bool
differs_from f g = is_length_field g && not (same_length f.value g.value)

-- a Content-Length after the first is another one
unfoldable pub has_two_lengths : List Field → Bool
has_two_lengths fields =
    option_map_or (λ f. list_any (differs_from f) fields) (find is_length_field fields) false

-- a Content-Length isn't a length
unfoldable pub has_bad_length : List Field → Bool
has_bad_length fields = list_any (λ f. is_length_field f && not (is_length f.value)) fields

-- the number of the first Content-Length
abbrev pub length_framing : Option Field → Framing
length_framing o = option_map_or (λ f. Length (digits_value 10 f.value)) o Unstated

-- there is one Transfer-Encoding, and it is `chunked`
unfoldable pub is_chunked : List Field → Bool
is_chunked fields =
    (count_by is_coding fields == 1)
    && list_any (says (codes "transfer-encoding") (codes "chunked")) fields

-- what the fields state, or what is wrong with it
unfoldable pub stated : List Field → Result Framing WireWhy
stated fields =
    if list_any is_coding fields then (if is_chunked fields
    then (if list_any is_length_field fields then Err TwoLengths else Ok Chunked)
    else Err Coding)
    else (if has_two_lengths fields then Err TwoLengths
    else (if has_bad_length fields then Err BadLength
    else Ok (length_framing (find is_length_field fields))))

-- a request whose fields state nothing has no body, and a body has a limit
abbrev pub framed : Result Framing WireWhy → Result Framing WireWhy
framed (Ok Unstated) = Ok (Length 0)
framed (Ok Chunked) = Ok Chunked
framed (Ok (Length n)) = if nat_lt max_body n then Err BodyLong else Ok (Length n)
framed (Err why) = Err why

-- how the body of a request is framed: version 1.0 has no codings
unfoldable pub request_framing : ℕ → List Field → Result Framing WireWhy
request_framing minor fields =
    if (minor == 0) && list_any is_coding fields then Err Coding else framed (stated fields)

-- a request of version 1.1 has exactly one Host
unfoldable pub has_its_host : ℕ → List Field → Bool
has_its_host minor fields = (minor == 0) || (count_by (is_field_named (codes "host")) fields == 1)

-- the framing of a request, or the first fault of its head
unfoldable pub head_framing : ℕ → ℕ → List Field → Result Framing WireWhy
head_framing minor target_length fields =
    if not (has_its_host minor fields) then Err BadHead
    else (if nat_lt max_target target_length then Err TargetLong else request_framing minor fields)

-- a body comes: in chunks, or with a length other than 0
abbrev pub has_body : Framing → Bool
has_body Unstated = false
has_body Chunked = true
has_body (Length n) = nat_lt 0 n

-- the sender waits for the interim reply before it sends the body
unfoldable pub expects_interim : ℕ → List Field → Framing → Bool
expects_interim minor fields framing =
    (minor == 1)
    && (has_body framing && list_any (says (codes "expect") (codes "100-continue")) fields)

-- a Connection that lists `close`
abbrev pub says_close : Field → Bool
says_close f = is_field_named (codes "connection") f && lists (codes "close") f.value

-- the connection ends after the reply
unfoldable pub ends_connection : ℕ → List Field → Bool
ends_connection minor fields =
    (minor == 0) || list_any says_close fields
