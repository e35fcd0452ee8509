-- Children of a folder, and which child leads to a path.
use Rattle.std.proofs.Common.{◌≡◌, ℕ, Bool, true, false, ◌&&◌, List, [], ◌∷◌, ◌++◌, length, take, Some, None, arith, refl, sym, ap, ◌∙◌, subst, ◌⊎◌, inl, inr, ⊎_elim}
use Rattle.std.specs.Option.{is_some}
use Rattle.std.specs.Str.{bytes_eq}
use Rattle.std.proofs.lemmas.Bool.{and_from, cond-true, cond-false, cases_Bool}
use Rattle.std.proofs.lemmas.List.{take_at, length_push}
use Rattle.std.proofs.lemmas.Slice.Eq.{bytes_eq-Decides}
use Rattle.rs_path.specs.declared.child.Child.{Child}
use Rattle.rs_path.specs.Paths.{Path, folder_at}
use Rattle.rs_path.specs.Below.{is_inside, is_below, parent_at, parent_of}
use Rattle.rs_path.specs.Children.{child_at, child_from, child_towards}

itself : (n : List ℕ) → bytes_eq n n ≡ true
itself n = (bytes_eq-Decides n n).1 refl

-- ---- the parent of a child, and the child of a parent

parent_at-push : (ns : List (List ℕ)) (n : List ℕ) → parent_at (ns ++ n ∷ []) ≡ Some (folder_at ns)
parent_at-push [] n = refl
parent_at-push (m ∷ ms) n = ap (λ names. Some (folder_at names)) (take_at (m ∷ ms) (n ∷ []) (length (ms ++ n ∷ [])) (omega (arith, length_push ms n)))

pub parent_of-child_at : (f : Path) (c : Child) → f.folder ≡ true → parent_of (child_at f c) ≡ Some f
parent_of-child_at f c folder = parent_at-push f.names c.name ∙ ap (λ b. Some (record { names = f.names; folder = b })) (sym folder)

-- names are some names and a last one
last_name : (n : List ℕ) (ns : List (List ℕ)) → (m : List ℕ) × (take (length ns) (n ∷ ns) ++ m ∷ [] ≡ n ∷ ns)
last_name n [] = (n, refl)
last_name n (next ∷ ns) = let rest = last_name next ns in (rest.0, ap (λ t. n ∷ t) rest.1)

child_at-parent_at : (ns : List (List ℕ)) (folder : Bool) (f : Path) → parent_at ns ≡ Some f → (c : Child) × (child_at f c ≡ record { names = ns; folder = folder })
child_at-parent_at [] folder f there = absurd (cc)
child_at-parent_at (n ∷ ns) folder f there =
    let last = last_name n ns in
    let same : folder_at (take (length ns) (n ∷ ns)) ≡ f = cc in
    let child : Child = record { name = last.0; folder = folder } in
    (child, ap (λ (g : Path). child_at g child) (sym same) ∙ ap (λ names. record { names = names; folder = folder }) last.1)

pub child_at-parent_of : (p f : Path) → parent_of p ≡ Some f → (c : Child) × (child_at f c ≡ p)
child_at-parent_of p f there = child_at-parent_at p.names p.folder f there

-- ---- towards a path

is_some-child_from : (ms ns : List (List ℕ)) (folder : Bool) → is_some (child_from ms ns folder) ≡ is_inside ms ns
is_some-child_from [] [] folder = refl
is_some-child_from [] (n ∷ []) folder = refl
is_some-child_from [] (n ∷ (m ∷ ns)) folder = refl
is_some-child_from (m ∷ ms) [] folder = refl
is_some-child_from (m ∷ ms) (n ∷ ns) folder =
    ⊎_elim
    (λ same. ap is_some (cond-true _ _ _ same) ∙ is_some-child_from ms ns folder ∙ sym (ap (λ b. b && is_inside ms ns) same))
    (λ other. ap is_some (cond-false _ _ _ other) ∙ sym (ap (λ b. b && is_inside ms ns) other))
    (cases_Bool (bytes_eq m n))

pub is_some-child_towards : (f p : Path) → f.folder ≡ true → is_some (child_towards f p) ≡ is_below f p
is_some-child_towards f p folder = is_some-child_from f.names p.names p.folder ∙ sym (ap (λ b. b && is_inside f.names p.names) folder)

-- the child has the last of the names, or the path is below it
child_from-leads : (ms ns : List (List ℕ)) (folder : Bool) (c : Child) → child_from ms ns folder ≡ Some c
    → ((ms ++ c.name ∷ [] ≡ ns) × (c.folder ≡ folder)) ⊎ ((c.folder ≡ true) × (is_inside (ms ++ c.name ∷ []) ns ≡ true))
child_from-leads [] [] folder c there = absurd (cc)
child_from-leads [] (n ∷ []) folder c there =
    let this : Child = record { name = n; folder = folder } in
    let same : this ≡ c = cc in
    subst (λ (c : Child). ((c.name ∷ [] ≡ n ∷ []) × (c.folder ≡ folder)) ⊎ ((c.folder ≡ true) × (is_inside (c.name ∷ []) (n ∷ []) ≡ true))) same (inl (refl, refl))
child_from-leads [] (n ∷ (m ∷ ns)) folder c there =
    let this : Child = record { name = n; folder = true } in
    let same : this ≡ c = cc in
    subst (λ (c : Child). ((c.name ∷ [] ≡ n ∷ (m ∷ ns)) × (c.folder ≡ folder)) ⊎ ((c.folder ≡ true) × (is_inside (c.name ∷ []) (n ∷ (m ∷ ns)) ≡ true))) same
    (inr (refl, and_from _ _ (itself n) refl))
child_from-leads (m ∷ ms) [] folder c there = absurd (cc)
child_from-leads (m ∷ ms) (n ∷ ns) folder c there =
    ⊎_elim
    (λ same. let rest = child_from-leads ms ns folder c (sym (cond-true _ _ _ same) ∙ there) in
    let name = (bytes_eq-Decides m n).0 same in
    ⊎_elim
    (λ whole. inl (ap (λ t. m ∷ t) whole.0 ∙ ap (λ h. h ∷ ns) name, whole.1))
    (λ front. inr (front.0, and_from _ _ same front.1))
    rest)
    (λ other. let none : None ≡ Some c = sym (cond-false (bytes_eq m n) (child_from ms ns folder) None other) ∙ there in absurd (cc))
    (cases_Bool (bytes_eq m n))

pub child_towards-leads : (f p : Path) (c : Child) → child_towards f p ≡ Some c → (child_at f c ≡ p) ⊎ (is_below (child_at f c) p ≡ true)
child_towards-leads f p c there =
    ⊎_elim
    (λ whole. let Record : List (List ℕ) → Bool → Path = λ ns b. record { names = ns; folder = b } in
    inl (ap (λ ns. Record ns c.folder) whole.0 ∙ ap (λ b. Record p.names b) whole.1))
    (λ front. inr (and_from _ _ front.0 front.1))
    (child_from-leads f.names p.names p.folder c there)

child_from-push : (ns : List (List ℕ)) (n : List ℕ) (folder : Bool) → child_from ns (ns ++ n ∷ []) folder ≡ Some (record { name = n; folder = folder })
child_from-push [] n folder = refl
child_from-push (m ∷ ms) n folder = cond-true _ _ _ (itself m) ∙ child_from-push ms n folder

-- a child leads to itself
pub child_towards-child_at : (f : Path) (c : Child) → child_towards f (child_at f c) ≡ Some c
child_towards-child_at f c = child_from-push f.names c.name c.folder

is_inside-push : (ns : List (List ℕ)) (n : List ℕ) → is_inside ns (ns ++ n ∷ []) ≡ true
is_inside-push [] n = refl
is_inside-push (m ∷ ms) n = and_from _ _ (itself m) (is_inside-push ms n)

-- a child is below its folder
pub is_below-child_at : (f : Path) (c : Child) → is_below f (child_at f c) ≡ f.folder
is_below-child_at f c = ap (λ b. f.folder && b) (is_inside-push f.names c.name) ∙ and_true f.folder
  where
    and_true : (b : Bool) → (b && true) ≡ b
    and_true true = refl
    and_true false = refl
