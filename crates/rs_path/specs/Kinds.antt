-- Content types.
use Rattle.std.specs.Prelude.{ℕ, ◌-◌, Bool, not, ◌&&◌, ◌==◌, nat_lt, nat_le, List, length, slice_index}
use Rattle.std.specs.List.{list_all}
use Rattle.rs_path.specs.Limits.{max_kind}

-- neither the first byte nor the last is a space
abbrev pub is_bare : List ℕ → Bool
is_bare text = not (slice_index text 0 == 32) && not (slice_index text (length text - 1) == 32)

-- each byte is a space or a visible character of ASCII
abbrev pub is_printable : List ℕ → Bool
is_printable text = list_all (λ byte. nat_le 0x20 byte && nat_le byte 0x7E) text

-- 1 to 255 bytes of 0x20 to 0x7E, of which neither the first nor the last is a space
abbrev pub is_kind : List ℕ → Bool
is_kind text = nat_lt 0 (length text) && nat_le (length text) max_kind && is_printable text && is_bare text
