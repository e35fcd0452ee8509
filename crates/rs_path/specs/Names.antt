-- Names of documents and folders.
use Rattle.std.specs.Prelude.{ℕ, Bool, not, ◌&&◌, ◌||◌, ◌==◌, nat_lt, nat_le, List, [], ◌∷◌, length}
use Rattle.std.specs.List.{list_all}
use Rattle.std.specs.Str.{bytes_eq, is_utf8}
use Rattle.rs_path.specs.Limits.{max_name}

-- neither `/` nor NUL is among the bytes
abbrev pub has_no_separator : List ℕ → Bool
has_no_separator text = list_all (λ byte. not (byte == 47) && not (byte == 0)) text

-- the text is `.` or `..`
abbrev pub is_dots : List ℕ → Bool
is_dots text = bytes_eq text (46 ∷ []) || bytes_eq text (46 ∷ 46 ∷ [])

-- 1 to 255 bytes of UTF-8 without `/` and NUL, and neither `.` nor `..`
abbrev pub is_name : List ℕ → Bool
is_name text = nat_lt 0 (length text) && nat_le (length text) max_name && has_no_separator text && not (is_dots text)
    && is_utf8 text
