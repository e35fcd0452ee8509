-- Lists side by side.
use Rattle.std.proofs.Common.{◌≡◌, ℕ, ◌-◌, take, List, [], ◌∷◌, ◌++◌, length, map, reverse, arith, refl, sym, ap, ◌∙◌, length-append}
use Rattle.std.proofs.lemmas.List.{map-append, reverse-append}
use Rattle.rs_hall.specs.Abreast.{EachPair, no_pair, one_pair}

module _ {A B : Type 0} {Holds : A → B → Type 0} where
  pub pair_lengths : {xs : List A} {ys : List B} → EachPair Holds xs ys → length xs ≡ length ys
  pair_lengths no_pair = omega arith
  pair_lengths (one_pair p rest) = let same = pair_lengths rest in omega arith

  -- the last pair apart
  pub pair_last : (xs : List A) (ys : List B) (x : A) (y : B) → EachPair Holds (xs ++ x ∷ []) (ys ++ y ∷ []) → EachPair Holds xs ys × Holds x y
  pair_last [] [] x y (one_pair p rest) = (no_pair, p)
  pair_last [] (z ∷ ys) x y (one_pair p rest) = let same = pair_lengths rest in absurd (omega (arith, length-append ys (y ∷ [])))
  pair_last (w ∷ xs) [] x y (one_pair p rest) = let same = pair_lengths rest in absurd (omega (arith, length-append xs (x ∷ [])))
  pair_last (w ∷ xs) (z ∷ ys) x y (one_pair p rest) = let before = pair_last xs ys x y rest in (one_pair p before.0, before.1)

-- what is read off a list from the last to the first
pub reverse_of : {A B : Type 0} (f : A → B) (xs : List A) → map f (reverse xs) ≡ reverse (map f xs)
reverse_of f [] = refl
reverse_of {A} {B} f (x ∷ xs) =
    ap (map f) (reverse-append (x ∷ []) xs) ∙ (map-append f (reverse xs) (x ∷ [])
    ∙ (ap (λ (l : List B). l ++ f x ∷ []) (reverse_of f xs) ∙ sym (reverse-append (f x ∷ []) (map f xs))))

-- a list from which nothing could be taken is empty
pub none_left : {A : Type 0} (old new : List A) (count : ℕ) → old ≡ new ++ [] → count ≡ 0 → new ≡ take (count - 1) old → old ≡ []
none_left {A} old new count items none rest =
    items ∙ ap (λ (l : List A). l ++ []) (rest ∙ ap (λ (n : ℕ). take (n - 1) old) none)
