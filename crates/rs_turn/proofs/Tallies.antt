-- What stays true of each element of a list, and of a sum over it, where one element is changed or added.
use Rattle.std.proofs.Common.{◌≡◌, ◌≢◌, ℕ, zero, suc, ◌+◌, ◌≤◌, List, [], ◌∷◌, ◌++◌, length, set, sym, refl, ap, ◌∙◌, subst, ⊎_elim, arith}
use mathlib.Core.Option.{some, some-injective, some-ne-none}
use native.Mathlib.Decide.{ℕ_discrete}
use lib.ListN.{get_elem?}
use Rattle.atomic_table.proofs.Lists.{at_set}
use Rattle.rs_turn.specs.Rule.{tally}

-- f, but c at i
abbrev pick : {P : Type 0} → Dec P → ℕ → ℕ → ℕ
pick (yes _) a b = a
pick (no _) a b = b

pub put : (ℕ → ℕ) → ℕ → ℕ → ℕ → ℕ
put f i c j = pick (ℕ_discrete j i) c (f j)

pub put_here : (f : ℕ → ℕ) (i c : ℕ) → put f i c i ≡ c
unfolding put
put_here f i c = go (ℕ_discrete i i)
  where
    go : (d : Dec (i ≡ i)) → pick d c (f i) ≡ c
    go (yes _) = refl
    go (no n) = absurd (n refl)

pub put_else : (f : ℕ → ℕ) (i c j : ℕ) → j ≢ i → put f i c j ≡ f j
unfolding put
put_else f i c j other = go (ℕ_discrete j i)
  where
    go : (d : Dec (j ≡ i)) → pick d c (f j) ≡ f j
    go (yes e) = absurd (other e)
    go (no _) = refl

module _ {A : Type 0} where
  pub same_at : (l : List A) (i : ℕ) (v x : A) → get_elem? l i ≡ some v → get_elem? l i ≡ some x → v ≡ x
  same_at l i v x e f = some-injective v x (sym e ∙ f)

  pub set_each : (P Q : ℕ → A → Type 0) (l : List A) (by : ℕ) (w : A) → ((j : ℕ) (x : A) → get_elem? l j ≡ some x → P j x)
      → ((j : ℕ) (x : A) → j ≢ by → get_elem? l j ≡ some x → P j x → Q j x) → Q by w → (j : ℕ) (x : A) → get_elem? (set l by w) j ≡ some x → Q j x
  set_each P Q l by w each stays here j x e =
      ⊎_elim (λ t. subst (λ (z : ℕ × A). Q z.0 z.1) (λ i. (sym t.0 i, t.1 i)) here) (λ t. stays j x t.0 t.1 (each j x t.1)) (at_set l by j w x e)

  pub push_each : (P : ℕ → A → Type 0) (l : List A) (w : A) → ((j : ℕ) (x : A) → get_elem? l j ≡ some x → P j x) → P (length l) w
      → (j : ℕ) (x : A) → get_elem? (l ++ w ∷ []) j ≡ some x → P j x
  push_each P [] w each here zero x e = subst (P 0) (some-injective w x e) here
  push_each P [] w each here (suc j) x e = absurd (some-ne-none x (sym e))
  push_each P (y ∷ ys) w each here zero x e = each zero x e
  push_each P (y ∷ ys) w each here (suc j) x e = push_each (λ k. P (suc k)) ys w (λ k. each (suc k)) here j x e

  module _ (f : A → ℕ) where
    pub tally_set : (l : List A) (i : ℕ) (v w : A) → get_elem? l i ≡ some v → tally f (set l i w) + f v ≡ tally f l + f w
    tally_set [] i v w e = absurd (some-ne-none v (sym e))
    tally_set (x ∷ xs) zero v w e = let same = ap f (some-injective x v e) in omega arith
    tally_set (x ∷ xs) (suc i) v w e = let rest = tally_set xs i v w e in omega arith

    pub tally_push : (l : List A) (w : A) → tally f (l ++ w ∷ []) ≡ tally f l + f w
    tally_push [] w = omega arith
    tally_push (x ∷ xs) w = let rest = tally_push xs w in omega arith

    pub tally_at : (l : List A) (i : ℕ) (v : A) → get_elem? l i ≡ some v → f v ≤ tally f l
    tally_at [] i v e = absurd (some-ne-none v (sym e))
    tally_at (x ∷ xs) zero v e = let same = ap f (some-injective x v e) in omega arith
    tally_at (x ∷ xs) (suc i) v e = let rest = tally_at xs i v e in omega arith

    -- two elements of a list are two of its sum
    pub tally_two : (l : List A) (i j : ℕ) (v x : A) → i ≢ j → get_elem? l i ≡ some v → get_elem? l j ≡ some x → f v + f x ≤ tally f l
    tally_two [] i j v x other e g = absurd (some-ne-none v (sym e))
    tally_two (y ∷ ys) zero zero v x other e g = absurd (other refl)
    tally_two (y ∷ ys) zero (suc j) v x other e g = let same = ap f (some-injective y v e) in let rest = tally_at ys j x g in omega arith
    tally_two (y ∷ ys) (suc i) zero v x other e g = let same = ap f (some-injective y x g) in let rest = tally_at ys i v e in omega arith
    tally_two (y ∷ ys) (suc i) (suc j) v x other e g = let rest = tally_two ys i j v x (λ z. other (ap suc z)) e g in omega arith

  pub tally_le : (f g : A → ℕ) (l : List A) → ((i : ℕ) (v : A) → get_elem? l i ≡ some v → f v ≤ g v) → tally f l ≤ tally g l
  tally_le f g [] below = omega arith
  tally_le f g (x ∷ xs) below = let here = below 0 x refl in let rest = tally_le f g xs (λ i. below (suc i)) in omega arith
