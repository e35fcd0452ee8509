-- The head of a reply as a text: httparse's grammar as a function. `proofs/ReplyLemmas.antt` shows
-- that it is that grammar, for a text that begins with no line end.
use Rattle.std.specs.Prelude.{ℕ, ◌-◌, Bool, ◌&&◌, ◌==◌, if◌then◌else◌, List, [], ◌∷◌, length, take, drop, slice_index, nat_le, Option, Some, None, bytes_eq}
use Rattle.std.specs.List.{list_all}
use Rattle.std.specs.Char.{is_ascii_digit}
use Rattle.httparse.specs.Grammar.{LineEnd, lf, Field, is_value_byte, reason_phrase, ResponseHead, print_response}
use Rattle.rs_request.specs.Items.{pieces}
use Rattle.rs_request.specs.Texts.{without_cr, fields_in, is_field}

-- the phrase after a space
abbrev pub reason_in : List ℕ → Option (List ℕ)
reason_in [] = None
reason_in (b ∷ phrase) = Some phrase

-- the parts of a first line and of the lines after it
abbrev pub response_in : List ℕ × LineEnd → List Field × LineEnd → ResponseHead
response_in line section = record {
  blank = [];
  minor = slice_index line.0 7 - 48;
  digits = take 3 (drop 9 line.0);
  reason = reason_in (drop 12 line.0);
  line_end = line.1;
  fields = section.0;
  last = section.1;
}

-- the parts of the lines
abbrev pub response_lines : List (List ℕ) → ResponseHead
response_lines [] = response_in ([], lf) ([], lf)
response_lines (line ∷ lines) = response_in (without_cr line) (fields_in lines)

-- each part is of its class
abbrev pub is_response : ResponseHead → Bool
is_response h =
    nat_le h.minor 1
    && (((length h.digits == 3) && list_all is_ascii_digit h.digits)
    && (list_all is_value_byte (reason_phrase h.reason) && list_all is_field h.fields))

-- the head that the whole text is, if its parts are a head and print to it
unfoldable pub response_head : List ℕ → Option ResponseHead
response_head text =
    let h = response_lines (pieces 10 text) in
    if is_response h && bytes_eq (print_response h) text then Some h else None
