-- How many children ascending lists have.
use Rattle.std.proofs.Common.{◌≡◌, ◌≤◌, ℕ, ◌+◌, Bool, true, false, not, ◌||◌, ◌&&◌, cond, List, [], ◌∷◌, length, arith, refl, sym, ap, ◌∙◌, ⊎_elim}
use Rattle.std.specs.List.{list_all, list_any}
use Rattle.std.specs.Ordering.{is_lt}
use Rattle.std.proofs.lemmas.Bool.{and_parts, and_from, and_right, cases_Bool, cond-true, cond-false, true≢false, or_left}
use Rattle.rs_path.specs.declared.child.Child.{Child}
use Rattle.rs_path.specs.Children.{child_cmp, same_child}
use Rattle.rs_path.specs.ChildOrder.{same_child-Decides}
use Rattle.rs_rules.specs.Laws.{is_sorted}
use Rattle.rs_chain.proofs.SortedLemmas.{first_gone, sorted_equal}

-- the list without the child
abbrev taken : Child → List Child → List Child
taken c [] = []
taken c (x ∷ xs) = cond (same_child c x) xs (x ∷ taken c xs)

taken_here : (c x : Child) (xs : List Child) → same_child c x ≡ true → taken c (x ∷ xs) ≡ xs
taken_here c x xs here = cond-true (same_child c x) xs (x ∷ taken c xs) here

taken_later : (c x : Child) (xs : List Child) → same_child c x ≡ false → taken c (x ∷ xs) ≡ x ∷ taken c xs
taken_later c x xs other = cond-false (same_child c x) xs (x ∷ taken c xs) other

all_taken : (test : Child → Bool) (c : Child) (xs : List Child) → list_all test xs ≡ true → list_all test (taken c xs) ≡ true
all_taken test c [] each = refl
all_taken test c (x ∷ xs) each =
    let parts = and_parts (test x) (list_all test xs) each in
    ⊎_elim
    (λ here. ap (list_all test) (taken_here c x xs here) ∙ parts.1)
    (λ other. ap (list_all test) (taken_later c x xs other) ∙ and_from _ _ parts.0 (all_taken test c xs parts.1))
    (cases_Bool (same_child c x))

sorted_taken : (c : Child) (xs : List Child) → is_sorted xs ≡ true → is_sorted (taken c xs) ≡ true
sorted_taken c [] sorted = refl
sorted_taken c (x ∷ xs) sorted =
    let parts = and_parts (list_all (λ other. is_lt (child_cmp x other)) xs) (is_sorted xs) sorted in
    ⊎_elim
    (λ here. ap is_sorted (taken_here c x xs here) ∙ parts.1)
    (λ other.
    ap is_sorted (taken_later c x xs other)
    ∙ and_from _ _ (all_taken (λ other. is_lt (child_cmp x other)) c xs parts.0) (sorted_taken c xs parts.1))
    (cases_Bool (same_child c x))

length_taken : (c : Child) (xs : List Child) → list_any (same_child c) xs ≡ true → length xs ≡ length (taken c xs) + 1
length_taken c [] there = absurd (true≢false (sym there))
length_taken c (x ∷ xs) there =
    ⊎_elim
    (λ here. let left : length (taken c (x ∷ xs)) ≡ length xs = ap length (taken_here c x xs here) in omega (arith, left))
    (λ other.
    let rest : length xs ≡ length (taken c xs) + 1 = length_taken c xs (sym (ap (λ b. b || list_any (same_child c) xs) other) ∙ there) in
    let left : length (taken c (x ∷ xs)) ≡ length (x ∷ taken c xs) = ap length (taken_later c x xs other) in
    omega (arith, rest, left))
    (cases_Bool (same_child c x))

and_or : (a b e : Bool) → (a && (b || e)) ≡ ((a && b) || (a && e))
and_or true b e = refl
and_or false b e = refl

absorbed : (a b e : Bool) → (b ≡ true → a ≡ true) → (b || (a && e)) ≡ (a && (b || e))
absorbed a true e same = sym (ap (λ x. x && true) (same refl))
absorbed a false e same = refl

-- each other child stays
any_taken : (d c : Child) (xs : List Child) → is_sorted xs ≡ true → list_any (same_child d) (taken c xs) ≡ (not (same_child d c) && list_any (same_child d) xs)
any_taken d c [] sorted = sym (and_right (not (same_child d c)) false refl)
any_taken d c (x ∷ xs) sorted =
    let parts = and_parts (list_all (λ other. is_lt (child_cmp x other)) xs) (is_sorted xs) sorted in
    ⊎_elim
    (λ here.
    let it : c ≡ x = (same_child-Decides c x).0 here in
    ap (list_any (same_child d)) (taken_here c x xs here)
    ∙ ⊎_elim
    (λ same.
    let it_too : d ≡ x = (same_child-Decides d c).0 same ∙ it in
    ap (λ e. list_any (same_child e) xs) it_too ∙ first_gone x xs parts.0
    ∙ sym (ap (λ b. not b && list_any (same_child d) (x ∷ xs)) same))
    (λ apart.
    sym (ap (λ b. b || list_any (same_child d) xs) (sym (ap (same_child d) it) ∙ apart))
    ∙ sym (ap (λ b. not b && list_any (same_child d) (x ∷ xs)) apart))
    (cases_Bool (same_child d c)))
    (λ other.
    ap (list_any (same_child d)) (taken_later c x xs other) ∙ ap (λ b. same_child d x || b) (any_taken d c xs parts.1)
    ∙ absorbed (not (same_child d c)) (same_child d x) (list_any (same_child d) xs)
    (λ same. ap not (apart (same_child-Decides d x).0 other same)))
    (cases_Bool (same_child c x))
  where
    apart : (same_child d x ≡ true → d ≡ x) → same_child c x ≡ false → same_child d x ≡ true → same_child d c ≡ false
    apart to other same =
        ⊎_elim
        (λ it. absurd (true≢false (sym same ∙ ap (λ e. same_child e x) ((same_child-Decides d c).0 it) ∙ other)))
        (λ clear. clear)
        (cases_Bool (same_child d c))

or_false : (b : Bool) → (false || b) ≡ b
or_false b = refl

-- one child more is one more
pub length_one_more : (c : Child) (xs ys : List Child) → is_sorted xs ≡ true → is_sorted ys ≡ true → list_any (same_child c) xs ≡ false
    → ((d : Child) → list_any (same_child d) ys ≡ (same_child d c || list_any (same_child d) xs)) → length ys ≡ length xs + 1
length_one_more c xs ys one two fresh more =
    let there : list_any (same_child c) ys ≡ true = more c ∙ or_left (same_child c c) (list_any (same_child c) xs) ((same_child-Decides c c).1 refl) in
    let same : taken c ys ≡ xs = sorted_equal (taken c ys) xs (sorted_taken c ys two) one (λ d. any_taken d c ys two ∙ ap (λ b. not (same_child d c) && b) (more d) ∙ by d (same_child d c) refl) in
    let long : length (taken c ys) ≡ length xs = ap length same in
    let all : length ys ≡ length (taken c ys) + 1 = length_taken c ys there in
    omega (arith, long, all)
  where
    by : (d : Child) (b : Bool) → same_child d c ≡ b → (not b && (b || list_any (same_child d) xs)) ≡ list_any (same_child d) xs
    by d true same = sym (ap (λ e. list_any (same_child e) xs) ((same_child-Decides d c).0 same) ∙ fresh)
    by d false other = refl

-- a child that was there makes none more
pub length_as_before : (c : Child) (xs ys : List Child) → is_sorted xs ≡ true → is_sorted ys ≡ true → list_any (same_child c) xs ≡ true
    → ((d : Child) → list_any (same_child d) ys ≡ (same_child d c || list_any (same_child d) xs)) → length ys ≡ length xs
length_as_before c xs ys one two there more = ap length (sorted_equal ys xs two one (λ d. more d ∙ by d (same_child d c) refl))
  where
    by : (d : Child) (b : Bool) → same_child d c ≡ b → (b || list_any (same_child d) xs) ≡ list_any (same_child d) xs
    by d true same = sym (ap (λ e. list_any (same_child e) xs) ((same_child-Decides d c).0 same) ∙ there)
    by d false other = refl
