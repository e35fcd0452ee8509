-- What the head of a request says.
use Rattle.std.specs.Prelude.{◌≡◌, ℕ, ◌<◌, if◌then◌else◌, nat_lt, ◌==◌, List, [], length, map, take, Option, Some, None, Result, Ok, Err, ◌≤◌, ⊤}
use Rattle.std.specs.List.{list_any}
use Rattle.std.specs.Option.{option_map_or}
use Rattle.httparse.specs.Grammar.{RequestHead, field_value, Field as Line}
use Rattle.httparse.specs.declared.spans.HeaderSpan.{HeaderSpan}
use Rattle.httparse.specs.declared.spans.RequestSpans.{RequestSpans}
use Rattle.httparse.specs.Spans.{IsRequestAt, IsRequestWithin}
use Rattle.rs_request.specs.declared.field.Field.{Field}
use Rattle.rs_request.specs.declared.fault.WireWhy.{WireWhy}
use Rattle.rs_request.specs.declared.fault.WireWhy.TheVariants.{BadHead, HeadLong, TargetLong}
use Rattle.rs_request.specs.declared.framing.Framing.{Framing}
use Rattle.rs_request.specs.declared.head.Begun.{Begun}
use Rattle.rs_request.specs.Limits.{max_fields, max_head}
use Rattle.rs_request.specs.declared.search.Spot.TheVariants.{Before}
use Rattle.rs_request.specs.Lines.{first_empty_line, past_breaks}
use Rattle.rs_request.specs.Framing.{head_framing, expects_interim, ends_connection}
use Rattle.rs_request.specs.RequestTexts.{request_head}

-- a line's name, and its value without the white space round it
abbrev pub field_of : Line → Field
field_of f = record { name = f.name; value = field_value f }

abbrev pub fields_of : List Line → List Field
fields_of lines = map field_of lines

-- fields from pairs of a name and a value
abbrev pub pair_fields : List (List ℕ × List ℕ) → List Field
pair_fields pairs = map (λ p. record { name = p.0; value = p.1 }) pairs

-- the request of these parts, before its body, at this place in the stream
abbrev pub begun_at : ℕ → List ℕ → List ℕ → ℕ → List Field → Framing → Begun
begun_at place method target minor fields framing = record {
  message = record {
    method = method;
    target = target;
    minor = minor;
    fields = fields;
    body = [];
    close = ends_connection minor fields;
    place = place;
  };
  framing = framing;
  expects = expects_interim minor fields framing;
}

-- the same where the head has a framing
abbrev pub begun_by : ℕ → List ℕ → List ℕ → ℕ → List Field → Result Framing WireWhy
    → Result Begun WireWhy
begun_by place method target minor fields (Ok framing) =
    Ok (begun_at place method target minor fields framing)
begun_by place method target minor fields (Err why) = Err why

-- the first fault of a head, or the request that begins with it
unfoldable pub judged_head : ℕ → RequestHead → Result Begun WireWhy
judged_head place h =
    if nat_lt max_fields (length h.fields) then Err HeadLong
    else (let fields = fields_of h.fields in
    let framing = head_framing h.minor (length h.target) fields in
    begun_by place h.method h.target h.minor fields framing)

-- the same of a text
unfoldable pub judged_request : ℕ → List ℕ → Result Begun WireWhy
judged_request place text = option_map_or (judged_head place) (request_head text) (Err BadHead)

-- the spans are those of the head that the whole text is
pub record IsRequestIn (text : List ℕ) (room : List HeaderSpan) (spans : RequestSpans) : Type 0
  where
    pub head : RequestHead
    pub is : request_head text ≡ Some head
    pub at : IsRequestAt text room spans head
    pub within : IsRequestWithin text room spans
    pub whole : spans.len ≡ length text

-- why a head that has no end within its limit is refused: its first line, or the whole
abbrev pub long_head : List ℕ → WireWhy
long_head window = if list_any (λ b. b == 10) (past_breaks window) then HeadLong else TargetLong

-- the judgement, and how many bytes the head takes
abbrev pub with_length : ℕ → Result Begun WireWhy → Result (Begun × ℕ) WireWhy
with_length n (Ok b) = Ok (b, n)
with_length n (Err why) = Err why

-- what bytes hold of a head, where their first max_head have this first empty line: nothing yet, a
-- fault or a head
abbrev pub head_ending : ℕ → List ℕ → Option ℕ → Option (Result (Begun × ℕ) WireWhy)
head_ending place bytes None =
    if nat_lt (length bytes) max_head then None else Some (Err (long_head (take max_head bytes)))
head_ending place bytes (Some n) =
    Some (with_length n (judged_request place (past_breaks (take n bytes))))

-- what bytes hold of a head that begins at this place in the stream
unfoldable pub head_at : ℕ → List ℕ → Option (Result (Begun × ℕ) WireWhy)
head_at place bytes = head_ending place bytes (first_empty_line Before (take max_head bytes))

-- a head takes bytes that there are
abbrev pub IsHeadWithin : List ℕ → Option (Result (Begun × ℕ) WireWhy) → Type 0
IsHeadWithin bytes None = ⊤
IsHeadWithin bytes (Some (Err why)) = ⊤
IsHeadWithin bytes (Some (Ok h)) = (0 < h.1) × (h.1 ≤ length bytes)
