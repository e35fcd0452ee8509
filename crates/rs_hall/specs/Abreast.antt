-- Lists side by side, place by place.
use Rattle.std.specs.Prelude.{List, [], ◌∷◌}

-- it holds of the elements at each place, and the lists are as long
pub data EachPair {A B : Type 0} (Holds : A → B → Type 0) : List A → List B → Type 0 where
  no_pair : EachPair Holds [] []
  one_pair : {x : A} {y : B} {xs : List A} {ys : List B} → Holds x y → EachPair Holds xs ys → EachPair Holds (x ∷ xs) (y ∷ ys)

-- the same of three lists
pub data EachTriple {A B C : Type 0} (Holds : A → B → C → Type 0) : List A → List B → List C → Type 0 where
  no_triple : EachTriple Holds [] [] []
  one_triple : {x : A} {y : B} {z : C} {xs : List A} {ys : List B} {zs : List C} → Holds x y z → EachTriple Holds xs ys zs
      → EachTriple Holds (x ∷ xs) (y ∷ ys) (z ∷ zs)
