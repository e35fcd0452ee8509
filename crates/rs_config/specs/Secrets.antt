-- Digests of passwords, as words.
use Rattle.std.specs.Prelude.{ℕ, ◌&&◌, ◌==◌, List, length, Option, None, if◌then◌else◌}
use Rattle.std.specs.List.{list_all}
use Rattle.std.specs.Result.{result_ok}
use Rattle.hex.specs.Hex.{decode_sized}
use Rattle.rs_scope.specs.Tokens.{is_lower_digit}

-- the 32 bytes with this text: exactly 64 lower hexadecimal digits, the high four bits of a byte first
abbrev pub secret_reading : List ℕ → Option (List ℕ)
secret_reading text = if length text == 64 && list_all is_lower_digit text then result_ok (decode_sized text 32) else None
