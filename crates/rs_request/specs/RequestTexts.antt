-- The head of a request as a text: httparse's grammar as a function. `Head reading` of
-- `proofs/RequestLemmas.antt` shows that it is that grammar, for a text that begins with no line
-- end.
use Rattle.std.specs.Prelude.{ℕ, ◌-◌, Bool, ◌&&◌, if◌then◌else◌, List, [], ◌∷◌, length, slice_index, nat_lt, nat_le, Option, Some, None, bytes_eq}
use Rattle.std.specs.Str.{is_utf8}
use Rattle.std.specs.List.{list_all}
use Rattle.httparse.specs.Grammar.{LineEnd, lf, Field, is_token, is_uri_byte, RequestHead, print_request}
use Rattle.rs_request.specs.Items.{pieces}
use Rattle.rs_request.specs.Texts.{cut, without_cr, fields_in, is_field}

-- the parts of a first line and of the lines after it
abbrev pub request_in : List ℕ × LineEnd → List Field × LineEnd → RequestHead
request_in line section =
    let method = cut 32 line.0 in
    let target = cut 32 method.1 in
    record {
      blank = [];
      method = method.0;
      target = target.0;
      minor = slice_index target.1 7 - 48;
      line_end = line.1;
      fields = section.0;
      last = section.1;
    }

-- the parts of the lines
abbrev pub request_lines : List (List ℕ) → RequestHead
request_lines [] = request_in ([], lf) ([], lf)
request_lines (line ∷ lines) = request_in (without_cr line) (fields_in lines)

-- each part is of its class
abbrev pub is_request : RequestHead → Bool
is_request h =
    is_token h.method
    && ((nat_lt 0 (length h.target) && list_all is_uri_byte h.target)
    && (is_utf8 h.target && (nat_le h.minor 1 && list_all is_field h.fields)))

-- the head that the whole text is, if its parts are a head and print to it
unfoldable pub request_head : List ℕ → Option RequestHead
request_head text =
    let h = request_lines (pieces 10 text) in
    if is_request h && bytes_eq (print_request h) text then Some h else None
