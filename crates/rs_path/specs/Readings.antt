-- How a text is read as a path: the path, or why it is none and where.
use Rattle.std.specs.Prelude.{◌≡◌, ℕ, ◌+◌, Bool, true, false, not, ◌&&◌, ◌||◌, ◌==◌, nat_lt, nat_le, List, [], ◌∷◌, ◌++◌, length, Option, Some, None, Result, Ok, Err, if◌then◌else◌}
use Rattle.std.specs.List.{list_any, slice_split}
use Rattle.std.specs.Char.{is_digit}
use Rattle.std.specs.Str.{is_utf8}
use Rattle.percent_encoding.specs.Percent.{percent_decode}
use Rattle.rs_path.specs.declared.path_fault.PathWhy.{PathWhy}
use Rattle.rs_path.specs.declared.path_fault.PathWhy.TheVariants.{Empty, Slash, Nul, Dots, NameLong, Deep, NotUtf8, BadEscape}
use Rattle.rs_path.specs.declared.path_fault.PathFault.{PathFault}
use Rattle.rs_path.specs.declared.path_fault.PathFault.TheVariants.{Bad, NoMemory}
use Rattle.rs_path.specs.declared.spelling.Spelling.{Spelling}
use Rattle.rs_path.specs.declared.spelling.Spelling.TheVariants.{Escaped, Plain}
use Rattle.rs_path.specs.Names.{is_dots}
use Rattle.rs_path.specs.Paths.{Path, folder_at, document_at, is_nil}
use Rattle.rs_path.specs.Limits.{max_name, max_names}

-- why the bytes, of which there are some, are no name
abbrev pub name_fault : List ℕ → Option PathWhy
name_fault name = if list_any (λ byte. byte == 47) name then Some Slash
    else if list_any (λ byte. byte == 0) name then Some Nul
    else if not (is_utf8 name) then Some NotUtf8
    else if is_dots name then Some Dots
    else if nat_lt max_name (length name) then Some NameLong
    else None

-- the name, unless there is a fault
abbrev pub name_unless : List ℕ → Option PathWhy → Result (List ℕ) PathWhy
name_unless name None = Ok name
name_unless name (Some why) = Err why

-- the name that a segment without escapes stands for
abbrev pub plain_name : List ℕ → Result (List ℕ) PathWhy
plain_name segment = name_unless segment (name_fault segment)

-- two hexadecimal digits come first
abbrev pub begins_with_digits : List ℕ → Bool
begins_with_digits [] = false
begins_with_digits (high ∷ []) = false
begins_with_digits (high ∷ low ∷ rest) = is_digit high 16 && is_digit low 16

-- two hexadecimal digits come after each `%`
abbrev pub has_whole_escapes : List ℕ → Bool
has_whole_escapes [] = true
has_whole_escapes (byte ∷ rest) = (not (byte == 37) || begins_with_digits rest) && has_whole_escapes rest

-- the name that a segment with escapes stands for
abbrev pub escaped_name : List ℕ → Result (List ℕ) PathWhy
escaped_name segment = if has_whole_escapes segment then plain_name (percent_decode segment) else Err BadEscape

abbrev pub name_by : Spelling → List ℕ → Result (List ℕ) PathWhy
name_by Escaped segment = escaped_name segment
name_by Plain segment = plain_name segment

-- the name of a segment after a number of names
abbrev pub segment_name : (List ℕ → Result (List ℕ) PathWhy) → ℕ → List ℕ → Result (List ℕ) PathWhy
segment_name name_of count segment = if nat_le max_names count then Err Deep
    else if is_nil segment then Err Empty
    else name_of segment

-- what follows a name, or the fault of its segment at its place
abbrev pub go_on : Result (List ℕ) PathWhy → ℕ → (List ℕ → Result Path PathFault) → Result Path PathFault
go_on (Ok name) place reading = reading name
go_on (Err why) place reading = Err (Bad why place)

-- the path of these names and then of the segments, of which the first begins at the place
abbrev pub segments_reading : (List ℕ → Result (List ℕ) PathWhy) → ℕ → List (List ℕ) → List (List ℕ)
    → Result Path PathFault
segments_reading name_of place names [] = Ok (document_at names)
segments_reading name_of place names (segment ∷ rest) = if is_nil segment && is_nil rest then Ok (folder_at names)
    else go_on (segment_name name_of (length names) segment) place
    (λ name. segments_reading name_of (place + length segment + 1) (names ++ name ∷ []) rest)

abbrev pub is_slash : ℕ → Bool
is_slash byte = byte == 47

-- the segments of what follows a slash, if one does
abbrev pub rest_parts : Option (List ℕ) → List (List ℕ)
rest_parts None = []
rest_parts (Some rest) = slice_split is_slash rest

-- the path of a text, whose segments stand for names as the function says
abbrev pub reading : (List ℕ → Result (List ℕ) PathWhy) → List ℕ → Result Path PathFault
reading name_of [] = Err (Bad Empty 0)
reading name_of (first ∷ rest) =
    if is_slash first then segments_reading name_of 1 [] (slice_split is_slash rest) else Err (Bad Empty 0)

-- how an escaped text is read
abbrev pub target_reading : List ℕ → Result Path PathFault
target_reading = reading escaped_name

-- how a text without escapes is read
abbrev pub plain_reading : List ℕ → Result Path PathFault
plain_reading = reading plain_name

-- the call read this, or memory ran out
abbrev pub Reads : Result Path PathFault → Result Path PathFault → Type 0
Reads (Ok path) wanted = wanted ≡ Ok path
Reads (Err (Bad why place)) wanted = wanted ≡ Err (Bad why place)
Reads (Err NoMemory) wanted = Unit {0}

-- the same of one segment that begins at the place
abbrev pub ReadsName : Result (List ℕ) PathFault → ℕ → Result (List ℕ) PathWhy → Type 0
ReadsName (Ok name) place wanted = wanted ≡ Ok name
ReadsName (Err (Bad why at)) place wanted = (wanted ≡ Err why) × (at ≡ place)
ReadsName (Err NoMemory) place wanted = Unit {0}
