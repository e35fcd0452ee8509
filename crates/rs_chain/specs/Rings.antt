-- Rings of siblings. A ring is told by the list of its keys, from the first on.
use Rattle.std.specs.Prelude.{◌≡◌, ◌≢◌, ◌⊎◌, ℕ, ◌==◌, Bool, false, ◌||◌, List, [], ◌∷◌, Option, Some, None, if◌then◌else◌}

-- the key is in the list
abbrev pub In : ℕ → List ℕ → Type 0
In i [] = ⊥
In i (k ∷ ks) = (i ≡ k) ⊎ In i ks

-- the key is one of these
abbrev pub is_in : ℕ → List ℕ → Bool
is_in i [] = false
is_in i (k ∷ ks) = i == k || is_in i ks

-- the key isn't in the list
abbrev pub Lacks : ℕ → List ℕ → Type 0
Lacks i [] = Unit {0}
Lacks i (k ∷ ks) = (i ≢ k) × Lacks i ks

-- no key stands twice
abbrev pub Apart : List ℕ → Type 0
Apart [] = Unit {0}
Apart (k ∷ ks) = Lacks k ks × Apart ks

-- the list without the key
abbrev pub without_key : ℕ → List ℕ → List ℕ
without_key i [] = []
without_key i (k ∷ ks) = if i == k then ks else k ∷ without_key i ks

-- from a by these keys to z, and back
abbrev pub Joined : (ℕ → ℕ) → (ℕ → ℕ) → ℕ → List ℕ → ℕ → Type 0
Joined next prev a [] z = (next a ≡ z) × (prev z ≡ a)
Joined next prev a (i ∷ is) z = (next a ≡ i) × (prev i ≡ a) × Joined next prev i is z

-- these keys are a ring, and this is its first
abbrev pub IsRing : (ℕ → ℕ) → (ℕ → ℕ) → Option ℕ → List ℕ → Type 0
IsRing next prev first [] = first ≡ None
IsRing next prev first (i ∷ is) = (first ≡ Some i) × Joined next prev i is i

-- each folder's children are a ring, and no key is in two rings; the order of the rings is told by a function
pub record AreRings (next prev : ℕ → ℕ) (first : ℕ → Option ℕ) (order : ℕ → List ℕ) : Type 0 where
  pub rings : (f : ℕ) → IsRing next prev (first f) (order f)
  pub apart : (f : ℕ) → Apart (order f)
  pub lone : (f g i : ℕ) → In i (order f) → In i (order g) → f ≡ g

-- the order with another ring of the folder
abbrev pub with_ring : ℕ → List ℕ → (ℕ → List ℕ) → ℕ → List ℕ
with_ring f ring order g = if g == f then ring else order g

-- the child is out of the folder's ring
abbrev pub taken_out : ℕ → ℕ → (ℕ → List ℕ) → ℕ → List ℕ
taken_out f i order = with_ring f (without_key i (order f)) order

-- the child is the first of the folder's ring
abbrev pub put_first : ℕ → ℕ → (ℕ → List ℕ) → ℕ → List ℕ
put_first f i order = with_ring f (i ∷ order f) order

-- the first of a ring without the child that has this next
abbrev pub first_without : Option ℕ → ℕ → ℕ → Option ℕ
first_without None child next = None
first_without (Some first) child next = if first == child then (if next == child then None else Some next) else Some first
