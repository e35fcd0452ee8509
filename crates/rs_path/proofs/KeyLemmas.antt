-- The order of keys, from the names.
use Rattle.std.proofs.Common.{◌≡◌, ℕ, ◌<◌, ◌≤◌, Bool, true, false, cond, nat_lt, ◌==◌, List, [], ◌∷◌, length, drop, All, refl, sym, ap, ◌∙◌, arith}
use mathlib.Core.Bool.{true≢false}
use Rattle.std.specs.declared.cmp.Ordering.{Ordering}
use Rattle.std.specs.declared.cmp.Ordering.TheVariants.{Less, Equal, Greater}
use Rattle.std.specs.Ordering.{nat_cmp, bool_cmp, ordering_then}
use Rattle.std.specs.Cmp.Lexicographic.{slice_cmp}
use Rattle.std.proofs.lemmas.Bool.{cond_both}
use Rattle.std.proofs.lemmas.Bool.Decides.{nat_tests}
use Rattle.std.proofs.lemmas.List.{drop_all, drop_more}
use Rattle.std.proofs.lemmas.List.Elements.{All-head, All-tail}
use Rattle.rs_path.specs.declared.child.Child.{Child}
use Rattle.rs_path.specs.Names.{is_name}
use Rattle.rs_path.specs.Keys.{key_text, key_cmp}
use Rattle.rs_path.specs.Children.{key_of, child_cmp}
use Rattle.rs_path.proofs.NameLemmas.{name_without_slash}
use Rattle.rs_path.proofs.RoundTrips.{NoSlash}
use Rattle.rs_path.proofs.OrderLemmas.{then_known}

-- two different bytes decide
decides_at_once : (x y : ℕ) (rest : Ordering) → (x == y) ≡ false → ordering_then (nat_cmp x y) rest ≡ nat_cmp x y
decides_at_once x y rest other =
    let Decided : Ordering → Type 0 = λ o. ordering_then o rest ≡ o in
    cond_both (nat_lt x y) Less (cond (x == y) Equal Greater) Decided (λ _. refl)
    (λ _. cond_both (x == y) Equal Greater Decided (λ same. absurd (true≢false (sym same ∙ other))) (λ _. refl))

other_way : (x y : ℕ) → (x == y) ≡ false → (y == x) ≡ false
other_way x y other = grind (arith, nat_tests)

key_text-cons : (x : ℕ) (xs : List ℕ) (folder : Bool) → key_text (x ∷ xs) folder ≡ x ∷ key_text xs folder
key_text-cons x xs true = refl
key_text-cons x xs false = refl

pub slice_cmp-key_text : (xs : List ℕ) (own : Bool) (ys : List ℕ) (their : Bool) → All NoSlash xs → All NoSlash ys
    → slice_cmp nat_cmp (key_text xs own) (key_text ys their) ≡ key_cmp xs own ys their
slice_cmp-key_text [] true [] true no_x no_y = refl
slice_cmp-key_text [] true [] false no_x no_y = refl
slice_cmp-key_text [] false [] true no_x no_y = refl
slice_cmp-key_text [] false [] false no_x no_y = refl
slice_cmp-key_text [] true (y ∷ ys) true no_x no_y = decides_at_once 47 y _ (other_way y 47 (All-head NoSlash y ys no_y))
slice_cmp-key_text [] true (y ∷ ys) false no_x no_y = decides_at_once 47 y _ (other_way y 47 (All-head NoSlash y ys no_y))
slice_cmp-key_text [] false (y ∷ ys) true no_x no_y = refl
slice_cmp-key_text [] false (y ∷ ys) false no_x no_y = refl
slice_cmp-key_text (x ∷ xs) true [] true no_x no_y = decides_at_once x 47 _ (All-head NoSlash x xs no_x)
slice_cmp-key_text (x ∷ xs) true [] false no_x no_y = refl
slice_cmp-key_text (x ∷ xs) false [] true no_x no_y = decides_at_once x 47 _ (All-head NoSlash x xs no_x)
slice_cmp-key_text (x ∷ xs) false [] false no_x no_y = refl
slice_cmp-key_text (x ∷ xs) own (y ∷ ys) their no_x no_y =
    ap (λ k. slice_cmp nat_cmp k (key_text (y ∷ ys) their)) (key_text-cons x xs own)
    ∙ ap (slice_cmp nat_cmp (x ∷ key_text xs own)) (key_text-cons y ys their)
    ∙ ap (ordering_then (nat_cmp x y)) (slice_cmp-key_text xs own ys their (All-tail NoSlash x xs no_x) (All-tail NoSlash y ys no_y))

-- ---- where one of the names is used up

pub own_ends : (own : List ℕ) (own_folder : Bool) (theirs : List ℕ) (their_folder : Bool) (i : ℕ) → length own ≤ i → i < length theirs → own_folder ≡ false
    → Less ≡ key_cmp (drop i own) own_folder (drop i theirs) their_folder
own_ends own own_folder theirs their_folder i past within no_folder = rw (drop_all i own past, drop_more theirs i 0 within, no_folder) refl

pub theirs_end : (own : List ℕ) (own_folder : Bool) (theirs : List ℕ) (their_folder : Bool) (i : ℕ) → i < length own → length theirs ≤ i → their_folder ≡ false
    → Greater ≡ key_cmp (drop i own) own_folder (drop i theirs) their_folder
theirs_end own own_folder theirs their_folder i within past no_folder = rw (drop_all i theirs past, drop_more own i 0 within, no_folder) refl

-- ---- the order of keys alone

not_tied : (x y : ℕ) → (x == y) ≡ false → nat_cmp x y ≡ Equal → ⊥
not_tied x y other =
    let Untied : Ordering → Type 0 = λ o. o ≡ Equal → ⊥ in
    cond_both (nat_lt x y) Less (cond (x == y) Equal Greater) Untied (λ _ tied. cc)
    (λ _. cond_both (x == y) Equal Greater Untied (λ same tied. true≢false (sym same ∙ other)) (λ _ tied. cc))

then_tied : (r s : Ordering) → ordering_then r s ≡ Equal → s ≡ Equal
then_tied Less s tied = absurd (cc)
then_tied Equal s tied = tied
then_tied Greater s tied = absurd (cc)

-- keys that tie are of equal kind
key_cmp-tied : (xs : List ℕ) (own : Bool) (ys : List ℕ) (their : Bool) → All NoSlash xs → All NoSlash ys → key_cmp xs own ys their ≡ Equal → bool_cmp own their ≡ Equal
key_cmp-tied [] own [] their no_x no_y tied = tied
key_cmp-tied [] true (y ∷ ys) their no_x no_y tied = absurd (not_tied 47 y (other_way y 47 (All-head NoSlash y ys no_y)) tied)
key_cmp-tied [] false (y ∷ ys) their no_x no_y tied = absurd (cc)
key_cmp-tied (x ∷ xs) own [] true no_x no_y tied = absurd (not_tied x 47 (All-head NoSlash x xs no_x) tied)
key_cmp-tied (x ∷ xs) own [] false no_x no_y tied = absurd (cc)
key_cmp-tied (x ∷ xs) own (y ∷ ys) their no_x no_y tied =
    key_cmp-tied xs own ys their (All-tail NoSlash x xs no_x) (All-tail NoSlash y ys no_y) (then_tied (nat_cmp x y) (key_cmp xs own ys their) tied)

-- the order of the keys is the order of children
pub slice_cmp-key_of : (c d : Child) → is_name c.name ≡ true → is_name d.name ≡ true → slice_cmp nat_cmp (key_of c) (key_of d) ≡ child_cmp c d
slice_cmp-key_of c d is_c is_d =
    let no_c = name_without_slash c.name is_c in
    let no_d = name_without_slash d.name is_d in
    then_known (slice_cmp nat_cmp (key_of c) (key_of d)) (bool_cmp c.folder d.folder)
    (λ tied. key_cmp-tied c.name c.folder d.name d.folder no_c no_d (sym (slice_cmp-key_text c.name c.folder d.name d.folder no_c no_d) ∙ tied))
