-- The line before a chunk as a text: httparse's grammar as a function, as `proofs/ChunkLemmas.antt`
-- shows.
use Rattle.std.specs.Prelude.{ℕ, Bool, true, not, ◌&&◌, ◌==◌, nat_lt, nat_le, if◌then◌else◌, List, [], ◌∷◌, length, drop, Option, Some, None, option_map, bytes_eq}
use Rattle.std.specs.List.{list_all}
use Rattle.std.specs.Char.{is_ascii_hexdigit}
use Rattle.httparse.specs.Grammar.{is_ows, is_extension_byte, ChunkLine, print_chunk_line, chunk_size}

-- the bytes before the first that fails the test
abbrev pub front : (ℕ → Bool) → List ℕ → List ℕ
front test [] = []
front test (b ∷ bytes) = if test b then b ∷ front test bytes else []

-- the extension, up to the CR that ends the line
abbrev pub extension_in : List ℕ → Option (List ℕ)
extension_in [] = None
extension_in (b ∷ bytes) = if b == 59 then Some (front (λ c. not (c == 13)) bytes) else None

-- the parts of the text
abbrev pub chunk_in : List ℕ → ChunkLine
chunk_in text =
    let digits = front is_ascii_hexdigit text in
    let after = drop (length digits) text in
    let pad = front is_ows after in
    record { digits = digits; pad = pad; extension = extension_in (drop (length pad) after) }

abbrev pub is_extension : Option (List ℕ) → Bool
is_extension None = true
is_extension (Some text) = list_all is_extension_byte text

-- each part is of its class
abbrev pub is_chunk_line : ChunkLine → Bool
is_chunk_line l =
    (nat_lt 0 (length l.digits)
    && (nat_le (length l.digits) 16 && list_all is_ascii_hexdigit l.digits))
    && (list_all is_ows l.pad && is_extension l.extension)

-- the chunk line that the whole text is, if its parts are one and print to it
unfoldable pub chunk_line : List ℕ → Option ChunkLine
chunk_line text =
    let l = chunk_in text in
    if is_chunk_line l && bytes_eq (print_chunk_line l) text then Some l else None

-- the size that a chunk line gives
unfoldable pub size_of : List ℕ → Option ℕ
size_of text = option_map chunk_size (chunk_line text)
