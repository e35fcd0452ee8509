-- Lines of a head and of a trailer, and the first empty one.
use Rattle.std.specs.Prelude.{ℕ, ◌+◌, Bool, ◌||◌, ◌==◌, if◌then◌else◌, List, [], ◌∷◌, Option, Some, None, option_map}
use Rattle.std.specs.Option.{option_map_or, option_and_then}
use Rattle.rs_request.specs.declared.search.Spot.{Spot}
use Rattle.rs_request.specs.declared.search.Spot.TheVariants.{Before, Within, Fresh, Turned}

-- a byte of a line end: CR or LF
abbrev pub is_break : ℕ → Bool
is_break b = b == 13 || b == 10

-- the bytes from the first that is no CR and no LF
abbrev pub past_breaks : List ℕ → List ℕ
past_breaks [] = []
past_breaks (b ∷ bytes) = if is_break b then past_breaks bytes else b ∷ bytes

-- the spot after a byte, or none where the byte ends an empty line: an LF at a line's start, or
-- after a CR there
abbrev pub next_spot : Spot → ℕ → Option Spot
next_spot Before b = if is_break b then Some Before else Some Within
next_spot Within b = if b == 10 then Some Fresh else Some Within
next_spot Fresh b = if b == 10 then None else (if b == 13 then Some Turned else Some Within)
next_spot Turned b = if b == 10 then None else Some Within

-- the number of bytes up to and with the first empty line, where there is one
abbrev pub first_empty_line : Spot → List ℕ → Option ℕ
first_empty_line spot [] = None
first_empty_line spot (b ∷ bytes) =
    option_map_or (λ next. option_map (λ n. n + 1) (first_empty_line next bytes))
    (next_spot spot b) (Some 1)

-- the spot after all the bytes, where they have no empty line
abbrev pub spot_after : Spot → List ℕ → Option Spot
spot_after spot [] = Some spot
spot_after spot (b ∷ bytes) = option_and_then (λ next. spot_after next bytes) (next_spot spot b)

-- the number of bytes up to and with the first LF, where there is one
abbrev pub first_line : List ℕ → Option ℕ
first_line [] = None
first_line (b ∷ bytes) = if b == 10 then Some 1 else option_map (λ n. n + 1) (first_line bytes)
