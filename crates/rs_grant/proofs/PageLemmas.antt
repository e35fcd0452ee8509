-- Which fixed parts a page has, and parts appended one after another.
use Rattle.std.proofs.Common.{◌≡◌, ℕ, List, [], ◌∷◌, map, ◌++◌, Option, Some, None, refl, sym, ap, ◌∙◌, append_assoc, append-nil}
use Rattle.std.specs.List.{flat_map}
use Rattle.std.proofs.lemmas.List.Concat.{flat_map-append}
use Rattle.rs_grant.specs.Pages.{shown_parts, hidden_parts, state_parts, fixed_parts}

pub fixed : (user origin scopes client redirect : List ℕ) (state : Option (List ℕ))
    → map (λ part. part.0) (shown_parts user origin scopes ++ (hidden_parts user client redirect scopes ++ state_parts state)) ≡ fixed_parts state
fixed user origin scopes client redirect None = refl
fixed user origin scopes client redirect (Some state) = refl

-- one part behind others
pushed : {X : Type 0} (f : X → List ℕ) (old mid new : List ℕ) (xs : List X) (x : X) → mid ≡ old ++ flat_map f xs → new ≡ mid ++ f x
    → new ≡ old ++ flat_map f (xs ++ x ∷ [])
pushed f old mid new xs x before here =
    here ∙ ap (λ ys. ys ++ f x) before ∙ append_assoc old (flat_map f xs) (f x)
    ∙ ap (λ ys. old ++ ys) (ap (λ ys. flat_map f xs ++ ys) (sym (append-nil (f x))) ∙ sym (flat_map-append f xs (x ∷ [])))

pub pushed_one : {X : Type 0} (f : X → List ℕ) (old new : List ℕ) (x : X) → new ≡ old ++ f x → new ≡ old ++ flat_map f (x ∷ [])
pushed_one f old new x here = pushed f old old new [] x (sym (append-nil old)) here

pub pushed_three : {X : Type 0} (f : X → List ℕ) (old a b new : List ℕ) (x y z : X) → a ≡ old ++ f x → b ≡ a ++ f y → new ≡ b ++ f z
    → new ≡ old ++ flat_map f (x ∷ y ∷ z ∷ [])
pushed_three f old a b new x y z first second third =
    pushed f old b new (x ∷ y ∷ []) z (pushed f old a b (x ∷ []) y (pushed_one f old a x first) second) third

pub pushed_four : {X : Type 0} (f : X → List ℕ) (old a b c new : List ℕ) (x y z w : X) → a ≡ old ++ f x → b ≡ a ++ f y → c ≡ b ++ f z → new ≡ c ++ f w
    → new ≡ old ++ flat_map f (x ∷ y ∷ z ∷ w ∷ [])
pushed_four f old a b c new x y z w first second third fourth =
    pushed f old c new (x ∷ y ∷ z ∷ []) w (pushed_three f old a b c x y z first second third) fourth

-- three runs of parts and an end are one run and the end
pub page_is : {X : Type 0} (f : X → List ℕ) (a b c new end : List ℕ) (xs ys zs : List X) → a ≡ [] ++ flat_map f xs → b ≡ a ++ flat_map f ys
    → c ≡ b ++ flat_map f zs → new ≡ c ++ end → new ≡ flat_map f (xs ++ (ys ++ zs)) ++ end
page_is f a b c new end xs ys zs first second third last =
    let both = second ∙ ap (λ ps. ps ++ flat_map f ys) first in
    let all = third ∙ ap (λ ps. ps ++ flat_map f zs) both in
    last
    ∙ ap (λ ps. ps ++ end) (all ∙ append_assoc (flat_map f xs) (flat_map f ys) (flat_map f zs)
    ∙ ap (λ ps. flat_map f xs ++ ps) (sym (flat_map-append f ys zs)) ∙ sym (flat_map-append f xs (ys ++ zs)))
