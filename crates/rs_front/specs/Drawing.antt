-- A token of two random words.
use Rattle.std.specs.Prelude.{◌≡◌, ℕ, ◌⊎◌, List, [], ◌∷◌, Result, Ok, Err}
use Rattle.std.specs.Io.KnownBytes.{prepend_known}
use Rattle.rs_face.specs.Courses.{Course, HasFailed, IsSame}
use Rattle.rs_face.specs.declared.entropy.EntropyFault.{EntropyFault}
use Rattle.rs_scope.specs.Tokens.{bytes_of_words}

-- two words were drawn, and they make the token
pub record DrawsToken (words : Course (List ℕ)) (token : List ℕ) : Type 0 where
  pub first : ℕ
  pub second : ℕ
  pub drawn : words.old ≡ prepend_known (first ∷ second ∷ []) words.new
  pub made : token ≡ bytes_of_words first second

-- no word was drawn, or one
abbrev pub DrawsFew : Course (List ℕ) → Type 0
DrawsFew words = IsSame words ⊎ ((word : ℕ) × (words.old ≡ prepend_known (word ∷ []) words.new))

-- a token of two words was drawn, or the entropy failed
abbrev pub DrawsOrFails : Course (List ℕ) → Result (List ℕ) EntropyFault → Type 0
DrawsOrFails words (Ok token) = DrawsToken words token
DrawsOrFails words (Err fault) = HasFailed words × DrawsFew words
