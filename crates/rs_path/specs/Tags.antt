-- Texts of entity tags.
use Rattle.std.specs.Prelude.{ℕ, Bool, not, ◌&&◌, ◌==◌, nat_lt, nat_le, List, length}
use Rattle.std.specs.List.{list_all}
use Rattle.rs_path.specs.Limits.{max_tag}

-- each byte is of 0x21 to 0x7E, and none is a double quote
abbrev pub has_no_quote : List ℕ → Bool
has_no_quote text = list_all (λ byte. nat_le 0x21 byte && nat_le byte 0x7E && not (byte == 0x22)) text

-- 1 to 255 visible characters of ASCII other than the double quote
abbrev pub is_tag : List ℕ → Bool
is_tag text = nat_lt 0 (length text) && nat_le (length text) max_tag && has_no_quote text
