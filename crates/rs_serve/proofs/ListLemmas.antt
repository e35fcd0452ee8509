-- Lists, place by place.
use Rattle.std.proofs.Common.{◌≡◌, ℕ, zero, suc, ◌<◌, List, [], ◌∷◌, ◌++◌, length, slice_index_or, take, All, AllPairs, arith, ap, ◌∙◌, sym, length-append}
use lib.Seq.{take-append_seam}
use Rattle.rs_hall.specs.Abreast.{EachPair, no_pair, one_pair}
use Rattle.rs_serve.specs.Staffs.{Every}

-- lists that are as long, at each place of which this holds
pub pairs_of : {A : Type 0} (Holds : A → A → Type 0) (xs ys : List A) → length ys ≡ length xs
    → ((i : ℕ) (d : A) → i < length xs → Holds (slice_index_or xs i d) (slice_index_or ys i d)) → EachPair Holds xs ys
pairs_of Holds [] [] same at = no_pair
pairs_of Holds [] (y ∷ ys) same at = absurd (omega (arith, same))
pairs_of Holds (x ∷ xs) [] same at = absurd (omega (arith, same))
pairs_of Holds (x ∷ xs) (y ∷ ys) same at =
    one_pair (at zero x (omega arith)) (pairs_of Holds xs ys (omega (arith, same)) (λ i d few. at (suc i) d (omega arith)))

-- ---- every element

pub all_of : {A : Type 0} (Holds : A → Type 0) (xs : List A) → Every Holds xs → All Holds xs
all_of Holds [] every k d few = absurd (omega arith)
all_of Holds (x ∷ xs) every zero d few = every.0
all_of Holds (x ∷ xs) every (suc k) d few = all_of Holds xs every.1 k d (omega arith)

pub every_end : {A : Type 0} (Holds : A → Type 0) (xs : List A) (x : A) → Every Holds xs → Holds x → Every Holds (xs ++ x ∷ [])
every_end Holds [] x every last = (last, tt)
every_end Holds (y ∷ xs) x every last = (every.0, every_end Holds xs x every.1 last)

pub every_as : {A : Type 0} (Holds Then : A → Type 0) (xs : List A) → ((x : A) → Holds x → Then x) → Every Holds xs → Every Then xs
every_as Holds Then [] step every = tt
every_as Holds Then (x ∷ xs) step every = (step x every.0, every_as Holds Then xs step every.1)

pub pairs_cons : {A : Type 0} (Holds : A → A → Type 0) (x : A) (xs : List A) → All (Holds x) xs → AllPairs Holds xs → AllPairs Holds (x ∷ xs)
pairs_cons Holds x xs head tail i zero d below within = absurd (omega arith)
pairs_cons Holds x xs head tail zero (suc j) d below within = head j d (omega arith)
pairs_cons Holds x xs head tail (suc i) (suc j) d below within = tail i j d (omega arith) (omega arith)

pub pair_lengths : {A B : Type 0} {Holds : A → B → Type 0} {xs : List A} {ys : List B} → EachPair Holds xs ys → length xs ≡ length ys
pair_lengths no_pair = omega arith
pair_lengths (one_pair p rest) = let same = pair_lengths rest in omega arith

-- the last pair apart
pub pair_end : {A B : Type 0} (Holds : A → B → Type 0) (xs : List A) (ys : List B) (x : A) (y : B) → EachPair Holds (xs ++ x ∷ []) (ys ++ y ∷ [])
    → EachPair Holds xs ys × Holds x y
pair_end Holds [] [] x y (one_pair p rest) = (no_pair, p)
pair_end Holds [] (z ∷ ys) x y (one_pair p rest) = let same = pair_lengths rest in absurd (omega (arith, length-append ys (y ∷ [])))
pair_end Holds (w ∷ xs) [] x y (one_pair p rest) = let same = pair_lengths rest in absurd (omega (arith, length-append xs (x ∷ [])))
pair_end Holds (w ∷ xs) (z ∷ ys) x y (one_pair p rest) = let before = pair_end Holds xs ys x y rest in (one_pair p before.0, before.1)

-- what a slice of a whole list left of it
pub slice_again : {A : Type 0} (n : ℕ) (left behind now : List A) → now ≡ take n (left ++ behind) → length left ≡ n → now ≡ left
slice_again n left behind now is many = is ∙ (ap (λ (m : ℕ). take m (left ++ behind)) (sym many) ∙ take-append_seam left behind)
