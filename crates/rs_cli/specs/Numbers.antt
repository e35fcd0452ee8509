-- Numbers of the command line.
use Rattle.std.specs.Prelude.{ℕ, ◌^◌, Bool, not, ◌&&◌, ◌||◌, ◌==◌, nat_le, nat_lt, List, length, slice_index_or, Option, Some, None, if◌then◌else◌}
use Rattle.std.specs.List.{list_all}
use Rattle.std.specs.Char.{is_ascii_digit}
use Rattle.std.specs.Str.Parse.{digits_value}

-- 1 to 20 decimal digits, without a zero in front of others
abbrev pub is_numeral : List ℕ → Bool
is_numeral word = list_all is_ascii_digit word && (nat_le 1 (length word) && (nat_le (length word) 20
    && (length word == 1 || not (slice_index_or word 0 48 == 48))))

-- the number that the word spells, at most the greatest of 64 bits; or none
abbrev pub number_spelled : List ℕ → Option ℕ
number_spelled word = if is_numeral word && nat_lt (digits_value 10 word) (2 ^ 64) then Some (digits_value 10 word) else None
