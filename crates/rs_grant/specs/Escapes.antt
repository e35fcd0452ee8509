-- Texts escaped for HTML, so that they make no markup (HTML, section 13.1.4, character references).
use Rattle.std.specs.Prelude.{ℕ, Bool, not, ◌&&◌, ◌||◌, ◌==◌, is_none, List, [], ◌∷◌, Option, Some, None, unwrap_or, codes, if◌then◌else◌}
use Rattle.std.specs.List.{flat_map, list_all}
use Rattle.std.specs.Str.{bytes_eq}

-- the reference for `&`, `<`, `>`, `"` and `'`
abbrev pub reference_of : ℕ → Option (List ℕ)
reference_of byte = if byte == 38 then Some (codes "&amp;")
    else if byte == 60 then Some (codes "&lt;")
    else if byte == 62 then Some (codes "&gt;")
    else if byte == 34 then Some (codes "&quot;")
    else if byte == 39 then Some (codes "&#39;")
    else None

-- the reference, or the byte itself
abbrev pub escape_byte : ℕ → List ℕ
escape_byte byte = unwrap_or (reference_of byte) (byte ∷ [])

abbrev pub escaped_text : List ℕ → List ℕ
escaped_text text = flat_map escape_byte text

-- neither `<`, `>`, `"` nor `'`
abbrev pub makes_no_markup : ℕ → Bool
makes_no_markup byte = not (byte == 60) && not (byte == 62) && not (byte == 34) && not (byte == 39)

-- one of the five references
abbrev pub is_reference : List ℕ → Bool
is_reference piece = bytes_eq piece (codes "&amp;") || bytes_eq piece (codes "&lt;") || bytes_eq piece (codes "&gt;")
    || bytes_eq piece (codes "&quot;") || bytes_eq piece (codes "&#39;")

-- none of the five bytes
abbrev pub is_plain_byte : ℕ → Bool
is_plain_byte byte = is_none (reference_of byte)

-- a reference, or bytes of which none is one of the five
abbrev pub is_piece : List ℕ → Bool
is_piece piece = is_reference piece || list_all is_plain_byte piece
