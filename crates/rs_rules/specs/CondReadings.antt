-- How a text is read as a condition: `*`, or a list of entity tags (RFC 9110, sections 13.1.1, 13.1.2, 8.8.3 and 5.6.1).
use Rattle.std.specs.Prelude.{◌≡◌, ℕ, ◌+◌, Bool, false, not, ◌&&◌, ◌||◌, ◌==◌, nat_le, List, [], ◌∷◌, ◌++◌, length, take, drop, position, Option, Some, None, is_some, option_map, Result, Ok, Err, if◌then◌else◌}
use Rattle.std.specs.List.{list_all, onto_first}
use Rattle.std.specs.Str.{bytes_eq}
use Rattle.rs_path.specs.Tags.{is_tag}
use Rattle.rs_rules.specs.declared.entity_tag.EntityTag.{EntityTag}
use Rattle.rs_rules.specs.declared.cond.Cond.{Cond}
use Rattle.rs_rules.specs.declared.cond.Cond.TheVariants.{Any, Tags}
use Rattle.rs_rules.specs.declared.cond_fault.CondFault.{CondFault}
use Rattle.rs_rules.specs.declared.cond_fault.CondFault.TheVariants.{Bad, NoMemory}

-- a space or a tab
abbrev pub is_blank : ℕ → Bool
is_blank byte = byte == 32 || byte == 9

abbrev pub is_quote : ℕ → Bool
is_quote byte = byte == 34

-- a byte of an opaque tag: 0x21, 0x23 to 0x7E, or one above 0x7F
abbrev pub is_tag_byte : ℕ → Bool
is_tag_byte byte = byte == 0x21 || (nat_le 0x23 byte && nat_le byte 0x7E) || nat_le 0x80 byte

-- the parts of a text between commas that don't stand in quotes; whether the text begins in quotes is the first argument
abbrev pub cut_items : Bool → List ℕ → List (List ℕ)
cut_items quoted [] = [] ∷ []
cut_items quoted (byte ∷ bytes) = if byte == 44 && not quoted then [] ∷ cut_items false bytes
    else onto_first byte (cut_items (if is_quote byte then not quoted else quoted) bytes)

-- the text before the next quote, of bytes of a tag, where nothing but blanks stands after it
abbrev pub closed_at : Option ℕ → List ℕ → Option (List ℕ)
closed_at None rest = None
closed_at (Some end) rest =
    if list_all is_tag_byte (take end rest) && list_all is_blank (drop (end + 1) rest) then Some (take end rest) else None

-- the text between two quotes
abbrev pub quoted_text : List ℕ → Option (List ℕ)
quoted_text [] = None
quoted_text (byte ∷ rest) = if is_quote byte then closed_at (position is_quote rest) rest else None

-- the text begins with `W/`
abbrev pub is_marked : List ℕ → Bool
is_marked [] = false
is_marked (first ∷ []) = false
is_marked (first ∷ second ∷ rest) = first == 87 && second == 47

-- the item without `W/` at its front
abbrev pub unmarked : List ℕ → List ℕ
unmarked item = if is_marked item then drop 2 item else item

-- an entity tag, weak or not, with blanks after it
abbrev pub entity_tag : List ℕ → Option EntityTag
entity_tag item = option_map (λ text. record { weak = is_marked item; tag = text }) (quoted_text (unmarked item))

-- what an item is from its first byte that is no blank on: a tag, or none, at that place
abbrev pub tag_or_place : ℕ → Option EntityTag → Result (Option EntityTag) ℕ
tag_or_place start None = Err start
tag_or_place start (Some tag) = Ok (Some tag)

abbrev pub item_from : Option ℕ → List ℕ → Result (Option EntityTag) ℕ
item_from None item = Ok None
item_from (Some start) item = tag_or_place start (entity_tag (drop start item))

-- an item of a list: nothing, a tag, or the place in it from which on it is no tag
abbrev pub cond_item_reading : List ℕ → Result (Option EntityTag) ℕ
cond_item_reading item = item_from (position (λ byte. not (is_blank byte)) item) item

-- the tags and one more item; a text in quotes that is no `Tag` is left out
abbrev pub with_item : List EntityTag → Option EntityTag → List EntityTag
with_item tags None = tags
with_item tags (Some tag) = if is_tag tag.tag then tags ++ tag ∷ [] else tags

-- what follows an item, or its fault
abbrev pub after_item : Result (Option EntityTag) ℕ → ℕ → Bool → List EntityTag → (Bool → List EntityTag → Result (List EntityTag) ℕ)
    → Result (List EntityTag) ℕ
after_item (Ok item) place some tags reading = reading (some || is_some item) (with_item tags item)
after_item (Err start) place some tags reading = Err (place + start)

-- the tags so far and those of the items, of which the first begins at the place; whether there was one so far is the
-- second argument. A list without a tag is refused at 0
abbrev pub list_reading : ℕ → Bool → List EntityTag → List (List ℕ) → Result (List EntityTag) ℕ
list_reading place some tags [] = if some then Ok tags else Err 0
list_reading place some tags (item ∷ items) =
    after_item (cond_item_reading item) place some tags (λ now listed. list_reading (place + length item + 1) now listed items)

-- the tags of a text, or the place of the first item that is no tag
abbrev pub tags_reading : List ℕ → Result (List EntityTag) ℕ
tags_reading text = list_reading 0 false [] (cut_items false text)

abbrev pub listed : Result (List EntityTag) ℕ → Result Cond ℕ
listed (Ok tags) = Ok (Tags tags)
listed (Err place) = Err place

-- how a text is read as a condition
abbrev pub cond_reading : List ℕ → Result Cond ℕ
cond_reading text = if bytes_eq text (42 ∷ []) then Ok Any else listed (tags_reading text)

-- the call read this, or memory ran out
abbrev pub ReadsAsCond : Result Cond CondFault → Result Cond ℕ → Type 0
ReadsAsCond (Ok cond) wanted = wanted ≡ Ok cond
ReadsAsCond (Err (Bad place)) wanted = wanted ≡ Err place
ReadsAsCond (Err NoMemory) wanted = Unit {0}

-- the call has added what it read in an item that begins at the place
abbrev pub AddsItem : Result Bool CondFault → List EntityTag → List EntityTag → ℕ → Result (Option EntityTag) ℕ → Type 0
AddsItem (Ok found) old new place wanted = (item : Option EntityTag) × (wanted ≡ Ok item) × (found ≡ is_some item) × (new ≡ with_item old item)
AddsItem (Err (Bad at)) old new place wanted = (start : ℕ) × (wanted ≡ Err start) × (at ≡ place + start)
AddsItem (Err NoMemory) old new place wanted = Unit {0}

-- the items of what follows a comma, if one follows
abbrev pub rest_items : Option (List ℕ) → List (List ℕ)
rest_items None = []
rest_items (Some rest) = cut_items false rest

-- the number of bytes before the first comma that isn't in quotes
abbrev pub item_len : Bool → List ℕ → ℕ
item_len quoted [] = 0
item_len quoted (byte ∷ bytes) =
    if byte == 44 && not quoted then 0 else item_len (if is_quote byte then not quoted else quoted) bytes + 1
