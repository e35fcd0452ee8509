-- A document as a client knows it, and a change of one.
use Rattle.std.specs.Prelude.{Bool, true, false, ◌&&◌, Option, Some, None}
use Rattle.std.specs.Str.{bytes_eq}
use Rattle.rs_talk.specs.declared.base.Base.{Base}
use Rattle.rs_talk.specs.declared.change.Change.{Change}
use Rattle.rs_talk.specs.declared.change.Change.TheVariants.{Put, Remove}

-- the same content type and body, or both removals
abbrev pub same_change : Change → Change → Bool
same_change (Put kind body) (Put other content) = bytes_eq kind other && bytes_eq body content
same_change (Put kind body) Remove = false
same_change Remove (Put kind body) = false
same_change Remove Remove = true

-- the change takes the document away
abbrev pub is_removal : Change → Bool
is_removal (Put kind body) = false
is_removal Remove = true

-- what the change would leave, as the change that leaves it: a document that may be there
abbrev pub change_to : Option Base → Change
change_to None = Remove
change_to (Some base) = Put base.kind base.body
