-- Two lists of children that ascend and have the same members are one.
use Rattle.std.proofs.Common.{◌≡◌, Bool, true, false, ◌||◌, List, [], ◌∷◌, refl, sym, ap, ◌∙◌, subst, inl, inr, ⊎_elim, ◌⊎◌}
use Rattle.std.specs.declared.cmp.Ordering.{Ordering}
use Rattle.std.specs.declared.cmp.Ordering.TheVariants.{Less, Equal, Greater}
use Rattle.std.specs.List.{list_all, list_any}
use Rattle.std.specs.Ordering.{is_lt, is_eq, ordering_reverse}
use Rattle.std.proofs.lemmas.Bool.{and_parts, cases_Bool, true≢false, or_cases, or_left, or_right}
use Rattle.rs_path.specs.declared.child.Child.{Child}
use Rattle.rs_path.specs.Children.{child_cmp, same_child}
use Rattle.rs_path.specs.ChildOrder.{same_child-Decides, child_cmp_total, child_ties}
use Rattle.rs_rules.specs.Laws.{is_sorted}
use Rattle.rs_chain.proofs.PlaceLemmas.{lt_less, same_is}

itself : (c : Child) → same_child c c ≡ true
itself c = (same_child-Decides c c).1 refl

-- who is found is after the first
later_less : (x c : Child) (xs : List Child) → list_all (λ other. is_lt (child_cmp x other)) xs ≡ true → list_any (same_child c) xs ≡ true → child_cmp x c ≡ Less
later_less x c [] each there = absurd (true≢false (sym there))
later_less x c (y ∷ ys) each there =
    let parts = and_parts (is_lt (child_cmp x y)) (list_all (λ other. is_lt (child_cmp x other)) ys) each in
    ⊎_elim
    (λ here. ap (child_cmp x) ((same_child-Decides c y).0 here) ∙ lt_less (child_cmp x y) parts.0)
    (λ rest. later_less x c ys parts.1 rest)
    (or_cases (same_child c y) (list_any (same_child c) ys) there)

-- no child comes before itself, nor two before each other
not_round : (x y : Child) → child_cmp x y ≡ Less → child_cmp y x ≡ Less → ⊥
not_round x y one two =
    let round : child_cmp x y ≡ ordering_reverse (child_cmp y x) = child_cmp_total.antisymm x y in
    let less : Less ≡ Greater = sym one ∙ round ∙ ap ordering_reverse two in
    absurd (cc)

-- the first isn't among the rest
pub first_gone : (x : Child) (xs : List Child) → list_all (λ other. is_lt (child_cmp x other)) xs ≡ true → list_any (same_child x) xs ≡ false
first_gone x xs each =
    ⊎_elim
    (λ there. absurd (not_round x x (later_less x x xs each there) (later_less x x xs each there)))
    (λ clear. clear)
    (cases_Bool (list_any (same_child x) xs))

heads : (x y : Child) (xs ys : List Child) → is_sorted (x ∷ xs) ≡ true → is_sorted (y ∷ ys) ≡ true
    → list_any (same_child x) (y ∷ ys) ≡ true → list_any (same_child y) (x ∷ xs) ≡ true → x ≡ y
heads x y xs ys one two here there =
    let low = and_parts (list_all (λ other. is_lt (child_cmp x other)) xs) (is_sorted xs) one in
    let high = and_parts (list_all (λ other. is_lt (child_cmp y other)) ys) (is_sorted ys) two in
    ⊎_elim
    (λ same. (same_child-Decides x y).0 same)
    (λ later.
    ⊎_elim
    (λ same. sym ((same_child-Decides y x).0 same))
    (λ back. absurd (not_round x y (later_less x y xs low.0 back) (later_less y x ys high.0 later)))
    (or_cases (same_child y x) (list_any (same_child y) xs) there))
    (or_cases (same_child x y) (list_any (same_child x) ys) here)

-- beside one head, the rest has what the whole has
rest_any : (c x : Child) (xs ys : List Child) → list_all (λ other. is_lt (child_cmp x other)) xs ≡ true → list_all (λ other. is_lt (child_cmp x other)) ys ≡ true
    → list_any (same_child c) (x ∷ xs) ≡ list_any (same_child c) (x ∷ ys) → list_any (same_child c) xs ≡ list_any (same_child c) ys
rest_any c x xs ys one two same =
    ⊎_elim
    (λ here.
    let it : c ≡ x = (same_child-Decides c x).0 here in
    ap (λ d. list_any (same_child d) xs) it ∙ first_gone x xs one ∙ sym (first_gone x ys two) ∙ sym (ap (λ d. list_any (same_child d) ys) it))
    (λ other.
    sym (ap (λ b. b || list_any (same_child c) xs) other) ∙ same ∙ ap (λ b. b || list_any (same_child c) ys) other)
    (cases_Bool (same_child c x))

pub sorted_equal : (xs ys : List Child) → is_sorted xs ≡ true → is_sorted ys ≡ true → ((c : Child) → list_any (same_child c) xs ≡ list_any (same_child c) ys) → xs ≡ ys
sorted_equal [] [] one two same = refl
sorted_equal [] (y ∷ ys) one two same = absurd (true≢false (sym (or_left (same_child y y) (list_any (same_child y) ys) (itself y)) ∙ sym (same y)))
sorted_equal (x ∷ xs) [] one two same = absurd (true≢false (sym (or_left (same_child x x) (list_any (same_child x) xs) (itself x)) ∙ same x))
sorted_equal (x ∷ xs) (y ∷ ys) one two same =
    let low = and_parts (list_all (λ other. is_lt (child_cmp x other)) xs) (is_sorted xs) one in
    let high = and_parts (list_all (λ other. is_lt (child_cmp y other)) ys) (is_sorted ys) two in
    let here : list_any (same_child x) (y ∷ ys) ≡ true = sym (same x) ∙ or_left (same_child x x) (list_any (same_child x) xs) (itself x) in
    let there : list_any (same_child y) (x ∷ xs) ≡ true = same y ∙ or_left (same_child y y) (list_any (same_child y) ys) (itself y) in
    let head : x ≡ y = heads x y xs ys one two here there in
    let above : list_all (λ other. is_lt (child_cmp x other)) ys ≡ true = ap (λ z. list_all (λ other. is_lt (child_cmp z other)) ys) head ∙ high.0 in
    let each : (c : Child) → list_any (same_child c) xs ≡ list_any (same_child c) ys = λ c.
    rest_any c x xs ys low.0 above (same c ∙ ap (λ z. list_any (same_child c) (z ∷ ys)) (sym head)) in
    ap (λ z. z ∷ xs) head ∙ ap (λ zs. y ∷ zs) (sorted_equal xs ys low.1 high.1 each)
