-- A user's name is ASCII without `@`, and so it is UTF-8.
use Rattle.std.proofs.Common.{◌≡◌, ◌≢◌, ℕ, ◌<◌, Bool, true, List, [], ◌∷◌, All, IsUtf8, arith}
use Rattle.std.specs.List.{list_all}
use Rattle.std.proofs.lemmas.Bool.{and_parts}
use Rattle.std.proofs.lemmas.Bool.Decides.{nat_tests}
use Rattle.std.proofs.lemmas.List.Elements.{All-nil, All-cons}
use Rattle.std.proofs.lemmas.Str.{IsUtf8-from_ascii}
use Rattle.std.proofs.lemmas.Str.Ascii.{IsAscii-from_all}
use Rattle.rs_path.specs.Users.{is_user_byte, is_user}

All-by : (test : ℕ → Bool) (P : ℕ → Type 0) → ((byte : ℕ) → test byte ≡ true → P byte) → (bytes : List ℕ) → list_all test bytes ≡ true → All P bytes
All-by test P holds [] all = All-nil P
All-by test P holds (byte ∷ bytes) all =
    let parts = and_parts (test byte) (list_all test bytes) all in
    All-cons P byte bytes (holds byte parts.0) (All-by test P holds bytes parts.1)

user_bytes : (user : List ℕ) → is_user user ≡ true → list_all is_user_byte user ≡ true
user_bytes user is = (and_parts _ (list_all is_user_byte user) is).1

ascii_byte : (byte : ℕ) → is_user_byte byte ≡ true → byte < 128
ascii_byte byte is = grind (arith, nat_tests)

not_at : (byte : ℕ) → is_user_byte byte ≡ true → byte ≢ 64
not_at byte is at = grind (arith, nat_tests)

pub user_text : (user : List ℕ) → is_user user ≡ true → IsUtf8 user
user_text user is = IsUtf8-from_ascii user (IsAscii-from_all user (All-by is_user_byte (λ byte. byte < 128) ascii_byte user (user_bytes user is)))

pub user_without_at : (user : List ℕ) → is_user user ≡ true → All (λ byte. byte ≢ 64) user
user_without_at user is = All-by is_user_byte (λ byte. byte ≢ 64) not_at user (user_bytes user is)
