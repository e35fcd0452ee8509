-- Paths as they stand in the target of a request (RFC 3986, sections 2.1 and 2.3).
use Rattle.std.specs.Prelude.{ℕ, ◌/◌, ◌%◌, Bool, true, ◌||◌, ◌==◌, List, [], ◌∷◌, map, if◌then◌else◌}
use Rattle.std.specs.List.{flat_map}
use Rattle.std.specs.Char.{is_ascii_alphanumeric}
use Rattle.std.specs.Fmt.{digit_glyph}
use Rattle.rs_path.specs.Paths.{Path, text_of}

-- letters, digits, `-`, `.`, `_` and `~`
abbrev pub is_unreserved : ℕ → Bool
is_unreserved byte = is_ascii_alphanumeric byte || byte == 45 || byte == 46 || byte == 95 || byte == 126

-- `%` and two upper-case hexadecimal digits
abbrev pub escape_of : ℕ → List ℕ
escape_of byte = 37 ∷ digit_glyph true (byte / 16) ∷ digit_glyph true (byte % 16) ∷ []

-- the bytes, with every byte escaped that isn't unreserved
abbrev pub escaped : List ℕ → List ℕ
escaped bytes = flat_map (λ byte. if is_unreserved byte then byte ∷ [] else escape_of byte) bytes

-- what the path of a target is made of
abbrev pub is_target_byte : ℕ → Bool
is_target_byte byte = is_unreserved byte || byte == 37 || byte == 47

-- the path's text, with its names escaped
abbrev pub target_text : Path → List ℕ
target_text p = text_of (map escaped p.names) p.folder
