-- How the fields of a row are read: what a field stands for, or the place of the row's fault. That is the first byte of
-- the first field with a wrong value, or the row's end where a field is cut short, or the first surplus byte. Places are
-- counted from the row's first byte; a field's reading is given its place, and what of the row is left from there.
use Rattle.std.specs.Prelude.{◌≡◌, ℕ, ◌+◌, nat_lt, nat_le, List, [], ◌∷◌, length, take, drop, Option, Some, None, Result, Ok, Err, if◌then◌else◌}
use Rattle.std.specs.Int.{w16, w32, w64, from_be_bytes}
use Rattle.std.specs.Str.{bytes_eq}
use Rattle.rs_path.specs.declared.path_fault.PathFault.{PathFault}
use Rattle.rs_path.specs.Kinds.{is_kind}
use Rattle.rs_path.specs.Paths.{Path, is_nil}
use Rattle.rs_path.specs.Readings.{plain_reading}
use Rattle.rs_path.specs.Tags.{is_tag}
use Rattle.rs_scope.specs.declared.scope.Scope.{Scope}
use Rattle.rs_scope.specs.declared.scope_fault.ScopeFault.{ScopeFault}
use Rattle.rs_scope.specs.Scopes.{scopes_text}
use Rattle.rs_scope.specs.ScopeReadings.{scopes_reading}
use Rattle.rs_row.specs.declared.row_fault.RowFault.{RowFault}
use Rattle.rs_row.specs.declared.row_fault.RowFault.TheVariants.{Bad, NoMemory}

-- ---- what texts stand for

-- the path that was read
abbrev pub path_of_reading : Result Path PathFault → Option Path
path_of_reading (Ok path) = Some path
path_of_reading (Err fault) = None

-- the path with this plain text
abbrev pub path_meant : List ℕ → Option Path
path_meant text = path_of_reading (plain_reading text)

-- a path, unless it is a folder's
abbrev pub unless_folder : Option Path → Option Path
unless_folder None = None
unless_folder (Some path) = if path.folder then None else Some path

-- the path of a document with this plain text
abbrev pub document_meant : List ℕ → Option Path
document_meant text = unless_folder (path_meant text)

-- the content type with this text
abbrev pub kind_meant : List ℕ → Option (List ℕ)
kind_meant text = if is_kind text then Some text else None

-- the entity tag with this text
abbrev pub tag_meant : List ℕ → Option (List ℕ)
tag_meant text = if is_tag text then Some text else None

-- an entity tag, or none where the text is empty
abbrev pub optional_tag_meant : List ℕ → Option (Option (List ℕ))
optional_tag_meant text = if is_nil text then Some None else (if is_tag text then Some (Some text) else None)

-- the scopes that are written as just this text
abbrev pub scopes_if_written : List ℕ → Result (List Scope) ScopeFault → Option (List Scope)
scopes_if_written text (Ok scopes) = if bytes_eq (scopes_text scopes) text then Some scopes else None
scopes_if_written text (Err fault) = None

abbrev pub scopes_meant : List ℕ → Option (List Scope)
scopes_meant text = scopes_if_written text (scopes_reading text)

-- ---- fields

-- the first bytes of what is left, and the rest
pub record Parted : Type 0 where
  pub front : List ℕ
  pub rest : List ℕ

-- so many bytes, or None where fewer are left
abbrev pub part_at : ℕ → List ℕ → Option Parted
part_at n row = if nat_le n (length row) then Some (record { front = take n row; rest = drop n row }) else None

-- a length of one byte and as many bytes, or None where fewer are left
abbrev pub part_1 : List ℕ → Option Parted
part_1 [] = None
part_1 (n ∷ row) = part_at n row

-- a length of two bytes and as many bytes, or None where fewer are left
abbrev pub part_2 : List ℕ → Option Parted
part_2 [] = None
part_2 (a ∷ []) = None
part_2 (a ∷ b ∷ row) = part_at (from_be_bytes w16 (a ∷ b ∷ [])) row

-- what a field stands for, the place behind it, and what is left from there
pub record RowField (X : Type 0) : Type 0 where
  pub value : X
  pub place : ℕ
  pub rest : List ℕ

-- the `?` of the logic: what follows, if there is no fault
infixl 10 ◌>>>◌
abbrev pub ◌>>>◌ : {A B : Type 0} → Result A RowFault → (A → Result B RowFault) → Result B RowFault
Ok x >>> f = f x
Err fault >>> f = Err fault

-- a text that begins at the place
abbrev pub text_in : Option Parted → ℕ → ℕ → Result (RowField (List ℕ)) RowFault
text_in None place end = Err (Bad end)
text_in (Some part) place end = Ok (record { value = part.front; place = place + length part.front; rest = part.rest })

-- so many bytes
abbrev pub fixed_in : ℕ → ℕ → List ℕ → Result (RowField (List ℕ)) RowFault
fixed_in n place row = text_in (part_at n row) place (place + length row)

-- a text behind its length of one byte, of two
abbrev pub text_1_in : ℕ → List ℕ → Result (RowField (List ℕ)) RowFault
text_1_in place row = text_in (part_1 row) (place + 1) (place + length row)

abbrev pub text_2_in : ℕ → List ℕ → Result (RowField (List ℕ)) RowFault
text_2_in place row = text_in (part_2 row) (place + 2) (place + length row)

-- what the text of a field stands for, if it does, else the fault is at the text's place
abbrev pub as_meant : {X : Type 0} → Option X → ℕ → RowField (List ℕ) → Result (RowField X) RowFault
as_meant None place text = Err (Bad place)
as_meant (Some x) place text = Ok (record { value = x; place = text.place; rest = text.rest })

-- a text behind its length of one byte that stands for something, and one behind a length of two
abbrev pub meant_1_in : {X : Type 0} → (List ℕ → Option X) → ℕ → List ℕ → Result (RowField X) RowFault
meant_1_in meant place row = text_1_in place row >>> (λ text. as_meant (meant text.value) (place + 1) text)

abbrev pub meant_2_in : {X : Type 0} → (List ℕ → Option X) → ℕ → List ℕ → Result (RowField X) RowFault
meant_2_in meant place row = text_2_in place row >>> (λ text. as_meant (meant text.value) (place + 2) text)

-- a number of two bytes, of four and of eight
abbrev pub number_of_bytes : {S : Type 0} → (List ℕ → S) → RowField (List ℕ) → Result (RowField S) RowFault
number_of_bytes number text = Ok (record { value = number text.value; place = text.place; rest = text.rest })

abbrev pub u16_in : ℕ → List ℕ → Result (RowField ℕ) RowFault
u16_in place row = fixed_in 2 place row >>> number_of_bytes (from_be_bytes w16)

abbrev pub u32_in : ℕ → List ℕ → Result (RowField ℕ) RowFault
u32_in place row = fixed_in 4 place row >>> number_of_bytes (from_be_bytes w32)

abbrev pub u64_in : ℕ → List ℕ → Result (RowField ℕ) RowFault
u64_in place row = fixed_in 8 place row >>> number_of_bytes (from_be_bytes w64)

-- one byte, which stands for something or is at fault
abbrev pub byte_meant : {X : Type 0} → (ℕ → Option X) → ℕ → List ℕ → Result (RowField X) RowFault
byte_meant meant place [] = Err (Bad place)
byte_meant meant place (byte ∷ row) = as_meant (meant byte) place (record { value = []; place = place + 1; rest = row })

-- a body of a size: its length is at fault where it is greater than the limit
abbrev pub body_of_size : ℕ → ℕ → ℕ → List ℕ → Result (RowField (List ℕ)) RowFault
body_of_size limit place size row = if nat_lt limit size then Err (Bad place) else fixed_in size (place + 4) row

abbrev pub body_in : ℕ → ℕ → List ℕ → Result (RowField (List ℕ)) RowFault
body_in limit place row = u32_in place row >>> (λ size. body_of_size limit place size.value size.rest)

-- nothing is left
abbrev pub whole : {X : Type 0} → ℕ → List ℕ → X → Result X RowFault
whole place row it = if is_nil row then Ok it else Err (Bad place)

-- ---- what a call answers

-- the fault of the reading, or memory ran out
abbrev pub IsRowFault : {X : Type 0} → RowFault → Result X RowFault → Type 0
IsRowFault (Bad place) wanted = wanted ≡ Err (Bad place)
IsRowFault NoMemory wanted = Unit {0}

-- the call read this, or memory ran out
abbrev pub ReadsRow : {X : Type 0} → Result X RowFault → Result X RowFault → Type 0
ReadsRow (Ok x) wanted = wanted ≡ Ok x
ReadsRow (Err fault) wanted = IsRowFault fault wanted

-- a text at the place stands for this, or is refused there, or memory ran out
abbrev pub ReadsMeant : {X : Type 0} → Result X RowFault → ℕ → Option X → Type 0
ReadsMeant (Ok x) place wanted = wanted ≡ Some x
ReadsMeant (Err (Bad at)) place wanted = (wanted ≡ None) × (at ≡ place)
ReadsMeant (Err NoMemory) place wanted = Unit {0}
