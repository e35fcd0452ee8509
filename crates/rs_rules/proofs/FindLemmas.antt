-- Lists with what passes a test taken out, and with one more element.
use Rattle.std.proofs.Common.{◌≡◌, Bool, true, false, not, ◌||◌, cond, List, [], ◌∷◌, ◌++◌, Some, None, refl, sym, ap, ◌∙◌, ⊎_elim, filter, find}
use Rattle.std.specs.List.{list_any, list_all}
use Rattle.std.specs.Option.{option_or}
use Rattle.std.proofs.lemmas.Bool.{cases_Bool, cond-true, cond-false, true≢false, and_parts, and_from}

-- nothing that passes is left
pub find-filter_not : {X : Type 0} (p : X → Bool) (xs : List X) → find p (filter (λ x. not (p x)) xs) ≡ None
find-filter_not p [] = refl
find-filter_not p (x ∷ xs) =
    ⊎_elim
    (λ hit. ap (find p) (cond-false (not (p x)) (x ∷ filter (λ y. not (p y)) xs) (filter (λ y. not (p y)) xs) (ap not hit)) ∙ find-filter_not p xs)
    (λ clear. ap (find p) (cond-true (not (p x)) (x ∷ filter (λ y. not (p y)) xs) (filter (λ y. not (p y)) xs) (ap not clear)) ∙ cond-false (p x) (Some x) _ clear ∙ find-filter_not p xs)
    (cases_Bool (p x))

-- what passes another test is found as before
pub find-filter_other : {X : Type 0} (p q : X → Bool) (xs : List X) → ((x : X) → q x ≡ true → p x ≡ false) → find q (filter (λ x. not (p x)) xs) ≡ find q xs
find-filter_other p q [] apart = refl
find-filter_other p q (x ∷ xs) apart =
    let rest = find-filter_other p q xs apart in
    let kept = filter (λ y. not (p y)) xs in
    ⊎_elim
    (λ hit. ap (find q) (cond-false (not (p x)) (x ∷ kept) kept (ap not hit)) ∙ rest
    ∙ sym (cond-false (q x) (Some x) (find q xs) (missed p q x apart hit)))
    (λ clear. ap (find q) (cond-true (not (p x)) (x ∷ kept) kept (ap not clear)) ∙ ap (cond (q x) (Some x)) rest)
    (cases_Bool (p x))
  where
    missed : {X : Type 0} (p q : X → Bool) (x : X) → ((x : X) → q x ≡ true → p x ≡ false) → p x ≡ true → q x ≡ false
    missed p q x apart hit = ⊎_elim (λ found. absurd (true≢false (sym hit ∙ apart x found))) (λ clear. clear) (cases_Bool (q x))

-- what is found among more
pub find-append : {X : Type 0} (q : X → Bool) (xs ys : List X) → find q (xs ++ ys) ≡ option_or (find q xs) (find q ys)
find-append q [] ys = refl
find-append q (x ∷ xs) ys =
    ⊎_elim
    (λ hit. cond-true (q x) (Some x) (find q (xs ++ ys)) hit ∙ sym (ap (λ o. option_or o (find q ys)) (cond-true (q x) (Some x) (find q xs) hit)))
    (λ clear. cond-false (q x) (Some x) (find q (xs ++ ys)) clear ∙ find-append q xs ys ∙ sym (ap (λ o. option_or o (find q ys)) (cond-false (q x) (Some x) (find q xs) clear)))
    (cases_Bool (q x))

-- whether something passes another test is as before
pub any-filter_other : {X : Type 0} (p q : X → Bool) (xs : List X) → ((x : X) → p x ≡ true → q x ≡ false) → list_any q (filter (λ x. not (p x)) xs) ≡ list_any q xs
any-filter_other p q [] apart = refl
any-filter_other p q (x ∷ xs) apart =
    let rest = any-filter_other p q xs apart in
    let kept = filter (λ y. not (p y)) xs in
    ⊎_elim
    (λ hit. ap (list_any q) (cond-false (not (p x)) (x ∷ kept) kept (ap not hit)) ∙ rest ∙ sym (ap (λ b. b || list_any q xs) (apart x hit)))
    (λ clear. ap (list_any q) (cond-true (not (p x)) (x ∷ kept) kept (ap not clear)) ∙ ap (λ b. q x || b) rest)
    (cases_Bool (p x))

-- what each element passes, each that is left passes
pub all-filter : {X : Type 0} (p q : X → Bool) (xs : List X) → list_all q xs ≡ true → list_all q (filter p xs) ≡ true
all-filter p q [] each = refl
all-filter p q (x ∷ xs) each =
    let parts = and_parts (q x) (list_all q xs) each in
    let rest = all-filter p q xs parts.1 in
    ⊎_elim
    (λ hit. ap (list_all q) (cond-true (p x) (x ∷ filter p xs) (filter p xs) hit) ∙ and_from _ _ parts.0 rest)
    (λ clear. ap (list_all q) (cond-false (p x) (x ∷ filter p xs) (filter p xs) clear) ∙ rest)
    (cases_Bool (p x))

-- what is left passes the test
pub all-filter_itself : {X : Type 0} (p : X → Bool) (xs : List X) → list_all p (filter p xs) ≡ true
all-filter_itself p [] = refl
all-filter_itself p (x ∷ xs) =
    ⊎_elim
    (λ hit. ap (list_all p) (cond-true (p x) (x ∷ filter p xs) (filter p xs) hit) ∙ and_from _ _ hit (all-filter_itself p xs))
    (λ clear. ap (list_all p) (cond-false (p x) (x ∷ filter p xs) (filter p xs) clear) ∙ all-filter_itself p xs)
    (cases_Bool (p x))
