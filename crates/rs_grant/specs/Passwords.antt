-- The user's password (own).
use Rattle.std.specs.Prelude.{ℕ, Bool, List, ◌++◌}
use Rattle.std.specs.Str.{bytes_eq}
use Rattle.sha2.specs.Sha256.{sha256}

-- SHA-256 of the salt followed by the password is the secret
abbrev pub password_fits : List ℕ → List ℕ → List ℕ → Bool
password_fits salt secret password = bytes_eq (sha256 (salt ++ password)) secret
