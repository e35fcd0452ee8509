-- Names of modules.
use Rattle.std.specs.Prelude.{ℕ, Bool, not, ◌&&◌, ◌||◌, ◌==◌, nat_lt, nat_le, List, length, codes}
use Rattle.std.specs.List.{list_all}
use Rattle.std.specs.Str.{bytes_eq}
use Rattle.rs_path.specs.Names.{is_dots}
use Rattle.rs_scope.specs.Limits.{max_module}

-- the name of the folder of public documents
abbrev pub public_name : List ℕ
public_name = codes "public"

-- `a` to `z`, a digit, `-`, `_` or `.`
abbrev pub is_module_byte : ℕ → Bool
is_module_byte byte = (nat_le 97 byte && nat_le byte 122) || (nat_le 48 byte && nat_le byte 57) || byte == 45 || byte == 95
    || byte == 46

-- 1 to 64 of these bytes, and neither `.`, `..` nor `public`
abbrev pub is_module : List ℕ → Bool
is_module text = nat_lt 0 (length text) && nat_le (length text) max_module && list_all is_module_byte text
    && not (is_dots text) && not (bytes_eq text public_name)
