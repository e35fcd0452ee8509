-- The child of a folder that a path is, or is below.
use Rattle.std.proofs.Common.{◌≡◌, ◌⊎◌, ◌<◌, ℕ, ◌+◌, Bool, true, false, not, ◌||◌, List, [], ◌∷◌, ◌++◌, length, take, drop, get_or, Option, Some, None, refl, sym, ap, ◌∙◌, ⊎_elim, inl, inr, append_assoc}
use Rattle.std.specs.Str.{bytes_eq}
use Rattle.std.proofs.lemmas.Bool.{cond-true, and_parts, and_from, true≢false}
use Rattle.std.proofs.lemmas.List.{at_drop_more, take-append-drop}
use Rattle.std.proofs.lemmas.Slice.Eq.{bytes_eq-Decides}
use Rattle.rs_path.specs.declared.child.Child.{Child}
use Rattle.rs_path.specs.Paths.{Path, folder_at, is_nil}
use Rattle.rs_path.specs.Below.{is_below, is_inside}
use Rattle.rs_path.specs.Children.{child_at, child_from, child_towards}
use Rattle.rs_path.proofs.Cited.{is_below-trans, child_towards-leads, child_towards-child_at}
use Rattle.rs_chain.specs.Walks.{step_at, front_at}

or_none : (b : Bool) → b ≡ (b || false)
or_none true = refl
or_none false = refl

pub all_or : (b : Bool) → true ≡ (b || true)
all_or true = refl
all_or false = refl

abbrev named : List ℕ → Bool → Child
named name folder = record { name = name; folder = folder }

pub towards_step : (done : List (List ℕ)) (n : List ℕ) (ns : List (List ℕ)) (folder : Bool) → child_from done (done ++ n ∷ ns) folder ≡ Some (named n (folder || not (is_nil ns)))
towards_step [] n [] folder = ap (λ b. Some (named n b)) (or_none folder)
towards_step [] n (m ∷ ms) folder = ap (λ b. Some (named n b)) (all_or folder)
towards_step (d ∷ ds) n ns folder =
    cond-true (bytes_eq d d) (child_from ds (ds ++ n ∷ ns) folder) None ((bytes_eq-Decides d d).1 refl) ∙ towards_step ds n ns folder

pub towards_front : (p : Path) (depth : ℕ) → depth < length p.names → child_towards (folder_at (take depth p.names)) p ≡ Some (step_at p depth)
towards_front p depth within =
    ap (λ ns. child_from (take depth p.names) ns p.folder)
    (sym (take-append-drop depth p.names) ∙ at_drop_more (λ ns. take depth p.names ++ ns) p.names depth [] within)
    ∙ towards_step (take depth p.names) (get_or p.names depth []) (drop (depth + 1) p.names) p.folder

-- ---- a folder above a path is a proper front of it

pub inside_split : (ms ns : List (List ℕ)) → is_inside ms ns ≡ true → (y : List ℕ) × (ys : List (List ℕ)) × (ns ≡ ms ++ y ∷ ys)
inside_split [] [] inside = absurd (true≢false (sym inside))
inside_split [] (n ∷ ns) inside = (n, ns, refl)
inside_split (m ∷ ms) [] inside = absurd (true≢false (sym inside))
inside_split (m ∷ ms) (n ∷ ns) inside =
    let parts = and_parts (bytes_eq m n) (is_inside ms ns) inside in
    let same : m ≡ n = (bytes_eq-Decides m n).0 parts.0 in
    let rest = inside_split ms ns parts.1 in
    (rest.0, rest.1, ap (λ l. n ∷ l) rest.2 ∙ ap (λ x. x ∷ ms ++ rest.0 ∷ rest.1) (sym same))

pub inside_join : (ms : List (List ℕ)) (y : List ℕ) (ys : List (List ℕ)) → is_inside ms (ms ++ y ∷ ys) ≡ true
inside_join [] y ys = refl
inside_join (m ∷ ms) y ys = and_from _ _ ((bytes_eq-Decides m m).1 refl) (inside_join ms y ys)

-- a path below a child of a folder leads to that child
towards_below : (f : Path) (c : Child) (p : Path) → is_below (child_at f c) p ≡ true → child_towards f p ≡ Some c
towards_below f c p below =
    let parts = and_parts c.folder (is_inside (f.names ++ c.name ∷ []) p.names) below in
    let split = inside_split (f.names ++ c.name ∷ []) p.names parts.1 in
    ap (λ ns. child_from f.names ns p.folder) (split.2 ∙ append_assoc f.names (c.name ∷ []) (split.0 ∷ split.1))
    ∙ towards_step f.names c.name (split.0 ∷ split.1) p.folder
    ∙ ap (λ b. Some (named c.name b)) (sym (all_or p.folder) ∙ sym parts.0)

-- the path is a child, or is below it
pub up_towards : (f : Path) (c : Child) (p : Path) → (child_at f c ≡ p) ⊎ (is_below (child_at f c) p ≡ true) → child_towards f p ≡ Some c
up_towards f c p above =
    ⊎_elim
    (λ it. ap (child_towards f) (sym it) ∙ child_towards-child_at f c)
    (λ below. towards_below f c p below)
    above

pub below_towards : (f q : Path) → is_below f q ≡ true → (c : Child) × (child_towards f q ≡ Some c)
below_towards f q below =
    let split = inside_split f.names q.names (and_parts f.folder (is_inside f.names q.names) below).1 in
    (named split.0 (q.folder || not (is_nil split.1)), ap (λ ns. child_from f.names ns q.folder) split.2 ∙ towards_step f.names split.0 split.1 q.folder)

one_child : (c d : Child) (o : Option Child) → o ≡ Some c → o ≡ Some d → d ≡ c
one_child c d o one two = cc

-- what is below a folder and at or above a path is at or below the folder's child on the way to the path
pub on_the_way : (f : Path) (c : Child) (p q : Path) → (child_at f c ≡ p) ⊎ (is_below (child_at f c) p ≡ true) → is_below f q ≡ true → (q ≡ p) ⊎ (is_below q p ≡ true)
    → (q ≡ child_at f c) ⊎ (is_below (child_at f c) q ≡ true)
on_the_way f c p q to below above =
    let d = below_towards f q below in
    let leads : (child_at f d.0 ≡ q) ⊎ (is_below (child_at f d.0) q ≡ true) = child_towards-leads f q d.0 d.1 in
    let whole : (child_at f d.0 ≡ p) ⊎ (is_below (child_at f d.0) p ≡ true) =
    ⊎_elim
    (λ it. ⊎_elim (λ same. inl (it ∙ same)) (λ under. inr (ap (λ r. is_below r p) it ∙ under)) above)
    (λ under. ⊎_elim (λ same. inr (ap (is_below (child_at f d.0)) (sym same) ∙ under)) (λ more. inr (is_below-trans (child_at f d.0) q p under more)) above)
    leads in
    let same : d.0 ≡ c = one_child c d.0 (child_towards f p) (up_towards f c p to) (up_towards f d.0 p whole) in
    ⊎_elim
    (λ it. inl (sym it ∙ ap (child_at f) same))
    (λ under. inr (ap (λ e. is_below (child_at f e) q) (sym same) ∙ under))
    leads

-- a proper front of a path is above it
pub front_below : (p : Path) (depth : ℕ) → depth < length p.names → is_below (front_at p depth) p ≡ true
front_below p depth within =
    and_from _ _ (at_drop_more (λ ns. p.folder || not (is_nil ns)) p.names depth [] within ∙ sym (all_or p.folder))
    (ap (is_inside (take depth p.names)) (sym (take-append-drop depth p.names) ∙ at_drop_more (λ ns. take depth p.names ++ ns) p.names depth [] within)
    ∙ inside_join (take depth p.names) (get_or p.names depth []) (drop (depth + 1) p.names))
