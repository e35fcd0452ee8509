-- Where bytes are held.
use Rattle.std.specs.Prelude.{ℕ, List}
use Rattle.std.specs.Arc.{arc_value}
use Rattle.rs_path.specs.declared.bytes.Held.{Held}
use Rattle.rs_path.specs.declared.bytes.Held.TheVariants.{Own, Shared}

-- the bytes, of one value or of several
abbrev pub bytes_held : Held → List ℕ
bytes_held (Own list) = list.items
bytes_held (Shared list) = (arc_value list).items
