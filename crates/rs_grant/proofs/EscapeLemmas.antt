-- An escaped text makes no markup.
use Rattle.std.proofs.Common.{◌≡◌, ℕ, Bool, true, false, ◌==◌, cond, List, [], ◌∷◌, map, Option, Some, None, unwrap_or, codes, refl, ◌∙◌}
use Rattle.std.specs.List.{list_all}
use Rattle.std.proofs.lemmas.Bool.{and_from, cond_both}
use Rattle.std.proofs.lemmas.List.Folds.{list_all-append}
use Rattle.rs_grant.specs.Escapes.{escape_byte, escaped_text, makes_no_markup, is_piece}

-- what holds of the five references, and of a byte that is none of the five, holds of what a byte becomes
record IsOther (byte : ℕ) : Type 0 where
  pub no_ampersand : (byte == 38) ≡ false
  pub no_less : (byte == 60) ≡ false
  pub no_greater : (byte == 62) ≡ false
  pub no_double : (byte == 34) ≡ false
  pub no_single : (byte == 39) ≡ false

abbrev single_of : ℕ → Option (List ℕ)
single_of byte = cond (byte == 39) (Some (codes "&#39;")) None

abbrev double_of : ℕ → Option (List ℕ)
double_of byte = cond (byte == 34) (Some (codes "&quot;")) (single_of byte)

abbrev greater_of : ℕ → Option (List ℕ)
greater_of byte = cond (byte == 62) (Some (codes "&gt;")) (double_of byte)

abbrev less_of : ℕ → Option (List ℕ)
less_of byte = cond (byte == 60) (Some (codes "&lt;")) (greater_of byte)

escape_by : (test : List ℕ → Bool) (byte : ℕ) → test (codes "&amp;") ≡ true → test (codes "&lt;") ≡ true → test (codes "&gt;") ≡ true
    → test (codes "&quot;") ≡ true → test (codes "&#39;") ≡ true → (IsOther byte → test (byte ∷ []) ≡ true) → test (escape_byte byte) ≡ true
escape_by test byte ampersand less greater double single other =
    let P : Option (List ℕ) → Type 0 = λ o. test (unwrap_or o (byte ∷ [])) ≡ true in
    cond_both (byte == 38) (Some (codes "&amp;")) (less_of byte) P (λ _. ampersand)
    (λ a. cond_both (byte == 60) (Some (codes "&lt;")) (greater_of byte) P (λ _. less)
    (λ b. cond_both (byte == 62) (Some (codes "&gt;")) (double_of byte) P (λ _. greater)
    (λ c. cond_both (byte == 34) (Some (codes "&quot;")) (single_of byte) P (λ _. double)
    (λ d. cond_both (byte == 39) (Some (codes "&#39;")) None P (λ _. single)
    (λ e. other (record { no_ampersand = a; no_less = b; no_greater = c; no_double = d; no_single = e }))))))

piece_other : (byte : ℕ) → IsOther byte → is_piece (byte ∷ []) ≡ true
piece_other byte is = rw (is.no_ampersand, is.no_less, is.no_greater, is.no_double, is.no_single) refl

pub pieces : (text : List ℕ) → list_all is_piece (map escape_byte text) ≡ true
pieces [] = refl
pieces (byte ∷ text) =
    and_from (is_piece (escape_byte byte)) (list_all is_piece (map escape_byte text)) (escape_by is_piece byte refl refl refl refl refl (piece_other byte)) (pieces text)

plain_other : (byte : ℕ) → IsOther byte → list_all makes_no_markup (byte ∷ []) ≡ true
plain_other byte is = rw (is.no_less, is.no_greater, is.no_double, is.no_single) refl

pub plain : (text : List ℕ) → list_all makes_no_markup (escaped_text text) ≡ true
plain [] = refl
plain (byte ∷ text) =
    list_all-append makes_no_markup (escape_byte byte) (escaped_text text)
    ∙ and_from (list_all makes_no_markup (escape_byte byte)) (list_all makes_no_markup (escaped_text text))
    (escape_by (list_all makes_no_markup) byte refl refl refl refl refl (plain_other byte)) (plain text)
