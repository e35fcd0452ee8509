-- The parts of a head's text, as they stand between its separators.
use Rattle.std.specs.Prelude.{ℕ, Bool, ◌&&◌, ◌==◌, if◌then◌else◌, List, [], ◌∷◌, length}
use Rattle.std.specs.List.{list_all}
use Rattle.httparse.specs.Grammar.{LineEnd, crlf, lf, Field, is_token, is_value_byte}

-- the bytes before the first c, and those after it
abbrev pub cut : ℕ → List ℕ → List ℕ × List ℕ
cut c [] = ([], [])
cut c (b ∷ bytes) = if b == c then ([], bytes) else (let r = cut c bytes in (b ∷ r.0, r.1))

-- a line without its CR, and which line end it had
abbrev pub without_cr : List ℕ → List ℕ × LineEnd
without_cr [] = ([], lf)
without_cr (b ∷ []) = if b == 13 then ([], crlf) else (b ∷ [], lf)
without_cr (b ∷ c ∷ bytes) = let r = without_cr (c ∷ bytes) in (b ∷ r.0, r.1)

-- a field line: the name before the first colon
abbrev pub field_in : List ℕ × LineEnd → Field
field_in line = let r = cut 58 line.0 in record { name = r.0; raw = r.1; end = line.1 }

-- the field lines up to the first empty line, and its line end
abbrev pub fields_in : List (List ℕ) → List Field × LineEnd
fields_in [] = ([], lf)
fields_in (line ∷ lines) =
    let l = without_cr line in
    if length l.0 == 0 then ([], l.1) else (let r = fields_in lines in (field_in l ∷ r.0, r.1))

-- the field is one of the grammar
abbrev pub is_field : Field → Bool
is_field f = is_token f.name && list_all is_value_byte f.raw
