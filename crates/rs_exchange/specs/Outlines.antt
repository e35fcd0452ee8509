-- The fields that the code says of an answer.
use Rattle.std.specs.Prelude.{◌≤◌, ⊤, Bool, true, false, List, [], ◌∷◌, length}
use Rattle.rs_request.specs.declared.field.Field.{Field}
use Rattle.rs_request.specs.Writing.{field_text}
use Rattle.rs_exchange.specs.declared.outline.OwnFields.{OwnFields}
use Rattle.rs_exchange.specs.declared.outline.OwnFields.TheVariants.{Nothing, Tag, Same, Shown, Challenge, Allow, Preflight, Typed, Location}
use Rattle.rs_exchange.specs.Replies.{tag_field, fresh_field, type_field, location_field, shown_fields, challenge_field, allow_field, preflight_fields}
use Rattle.rs_exchange.specs.Targets.{method_list}

-- as fields, in their order
abbrev pub own_fields : OwnFields → List Field
own_fields Nothing = []
own_fields (Tag version) = tag_field version ∷ []
own_fields (Same version) = tag_field version ∷ fresh_field ∷ []
own_fields (Shown version kind) = shown_fields version kind.now
own_fields (Challenge text) = challenge_field text.now ∷ []
own_fields (Allow methods) = allow_field (method_list methods) ∷ []
own_fields Preflight = preflight_fields
own_fields (Typed kind) = type_field kind.now ∷ []
own_fields (Location address) = location_field address.now ∷ []

-- they have a part of any length: those of a document or of a folder that is shown, of a text that was made, or of an address
abbrev pub is_shown : OwnFields → Bool
is_shown (Shown version kind) = true
is_shown (Typed kind) = true
is_shown (Location address) = true
is_shown other = false

-- the line of an entity tag, and a challenge, are short
abbrev pub IsShort : OwnFields → Type 0
IsShort (Tag version) = length (field_text (tag_field version)) ≤ 40
IsShort (Same version) = length (field_text (tag_field version)) ≤ 40
IsShort (Challenge text) = length text.now ≤ 100
IsShort other = ⊤
