-- The bytes of a request as they are written, and those of fields (RFC 9112, sections 3 to 6).
use Rattle.std.specs.Prelude.{◌≡◌, ◌≤◌, ℕ, List, [], ◌∷◌, ◌++◌, length, map, Ok, codes, All}
use Rattle.std.specs.List.{flat_map}
use Rattle.httparse.specs.Grammar.{crlf, Field as Line, RequestHead, IsRequestHead, print_request, trim_ows}
use Rattle.rs_request.specs.declared.field.Field.{Field}
use Rattle.rs_request.specs.declared.framing.Framing.TheVariants.{Length}
use Rattle.rs_request.specs.declared.message.RequestMessage.{RequestMessage}
use Rattle.rs_request.specs.Limits.{max_fields, max_head}
use Rattle.rs_request.specs.Framing.{head_framing, ends_connection}

-- name ":" SP value CR LF
abbrev pub field_text : Field → List ℕ
field_text f = f.name ++ (codes ": " ++ (f.value ++ (13 ∷ 10 ∷ [])))

-- the fields, and the empty line after them
abbrev pub fields_text : List Field → List ℕ
fields_text fields = flat_map field_text fields ++ (13 ∷ 10 ∷ [])

-- method SP target SP "HTTP/1.1" CR LF fields
abbrev pub request_head_text : RequestMessage → List ℕ
request_head_text m =
    m.method ++ (32 ∷ (m.target ++ (codes " HTTP/1.1" ++ (13 ∷ 10 ∷ fields_text m.fields))))

-- the bytes of a request, in version 1.1
abbrev pub request_text : RequestMessage → List ℕ
request_text m = request_head_text m ++ m.body

-- a field line with one space after the colon
abbrev pub line_for : Field → Line
line_for f = record { name = f.name; raw = 32 ∷ f.value; end = crlf }

-- the head of a request, with each line ended by CR LF
abbrev pub head_for : RequestMessage → RequestHead
head_for m = record {
  blank = [];
  method = m.method;
  target = m.target;
  minor = m.minor;
  line_end = crlf;
  fields = map line_for m.fields;
  last = crlf;
}

-- the request has a spelling that is its written one: version 1.1, a body as long as its
-- Content-Length says or none, and no Transfer-Encoding
pub record IsWritable (m : RequestMessage) : Type 0 where
  pub minor : m.minor ≡ 1
  pub head : IsRequestHead (head_for m)
  pub trimmed : All (λ f. trim_ows f.value ≡ f.value) m.fields
  pub few : length m.fields ≤ max_fields
  pub framed : head_framing m.minor (length m.target) m.fields ≡ Ok (Length (length m.body))
  pub close : m.close ≡ ends_connection m.minor m.fields
  pub short : length (print_request (head_for m)) ≤ max_head
