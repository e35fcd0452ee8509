-- Tokens: sixteen bytes, and their text.
use Rattle.std.specs.Prelude.{ℕ, Bool, ◌&&◌, ◌||◌, ◌==◌, nat_lt, nat_le, List, ◌++◌, length, Option, None, if◌then◌else◌}
use Rattle.std.specs.List.{list_all}
use Rattle.std.specs.Int.{w64, to_be_bytes}
use Rattle.std.specs.Result.{result_ok}
use Rattle.hex.specs.Hex.{decode_sized, encode_lower}

-- sixteen bytes
abbrev pub is_token : List ℕ → Bool
is_token bytes = length bytes == 16 && list_all (λ byte. nat_lt byte 256) bytes

-- `0` to `9` or `a` to `f`
abbrev pub is_lower_digit : ℕ → Bool
is_lower_digit byte = (nat_le 48 byte && nat_le byte 57) || (nat_le 97 byte && nat_le byte 102)

-- the token with this text: exactly 32 lower hexadecimal digits, the high four bits of a byte first
abbrev pub token_reading : List ℕ → Option (List ℕ)
token_reading text =
    if length text == 32 && list_all is_lower_digit text then result_ok (decode_sized text 16) else None

-- the token's 32 lower hexadecimal digits
abbrev pub token_text : List ℕ → List ℕ
token_text bytes = encode_lower bytes

-- the bytes of two words, the first word first and each with its high byte first
abbrev pub bytes_of_words : ℕ → ℕ → List ℕ
bytes_of_words first second = to_be_bytes w64 first ++ to_be_bytes w64 second
