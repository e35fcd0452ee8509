-- Documents of which no two have one path: one that is a child is the first that leads to it.
use Rattle.std.proofs.Common.{◌≡◌, ℕ, ◌<◌, Bool, true, false, not, ◌||◌, ◌&&◌, List, [], ◌∷◌, length, take, get_or, Option, Some, None, arith, zero, suc, refl, sym, ap, ◌∙◌, subst, ◌⊎◌, ⊎_elim}
use Rattle.std.specs.List.{list_all}
use Rattle.std.proofs.lemmas.Bool.{cases_Bool, true≢false, and_parts}
use Rattle.std.proofs.lemmas.List.Folds.{list_all_at}
use Rattle.rs_path.specs.declared.child.Child.{Child}
use Rattle.rs_path.specs.Paths.{Path, same_path}
use Rattle.rs_path.specs.Below.{is_inside, is_below}
use Rattle.rs_path.specs.ChildOrder.{same_child-Decides}
use Rattle.rs_path.specs.Children.{child_at, child_towards, same_child}
use Rattle.rs_rules.specs.declared.placed.Placed.{Placed}
use Rattle.rs_rules.specs.Sound.{are_distinct, AreDistinct}
use Rattle.rs_rules.proofs.Cited.{same_itself}
use Rattle.rs_plain.specs.Steps.{is_to, is_seen, is_fresh, is_first}

-- at a place of a list of which each passes
all_at : {X : Type 0} (p : X → Bool) (xs : List X) (i : ℕ) (d : X) → list_all p xs ≡ true → i < length xs → p (get_or xs i d) ≡ true
all_at p xs i d each within =
    ⊎_elim
    (λ hit. hit)
    (λ clear. absurd (true≢false (sym each ∙ list_all_at p xs i d within clear)))
    (cases_Bool (p (get_or xs i d)))

not_both : (b : Bool) → b ≡ true → not b ≡ true → ⊥
not_both true is other = true≢false (sym other)
not_both false is other = true≢false (sym is)

module _ (leads : (f p : Path) (c : Child) → child_towards f p ≡ Some c → (child_at f c ≡ p) ⊎ (is_below (child_at f c) p ≡ true)) where
  -- the path that leads to a document's child is the child
  document_here : (f p : Path) (c : Child) → child_towards f p ≡ Some c → c.folder ≡ false → child_at f c ≡ p
  document_here f p c to document =
      ⊎_elim
      (λ here. here)
      (λ below. absurd (true≢false (sym below ∙ ap (λ b. b && is_inside (child_at f c).names p.names) document)))
      (leads f p c to)

  -- no other path leads to it
  elsewhere : (f p q : Path) (c : Child) → child_towards f q ≡ Some c → c.folder ≡ false → not (same_path p q) ≡ true
      → is_to c (child_towards f p) ≡ false
  elsewhere f p q c to document apart = by (child_towards f p) refl
    where
      tied : (x : Child) → child_towards f p ≡ Some x → same_child c x ≡ true → same_path p q ≡ true
      tied x is same =
          let equal : c ≡ x = (same_child-Decides c x).0 same in
          let here : child_at f c ≡ p = document_here f p c (is ∙ ap (λ y. Some y) (sym equal)) document in
          let there : child_at f c ≡ q = document_here f q c to document in
          subst (λ r. same_path p r ≡ true) (sym here ∙ there) (same_itself p)

      by : (o : Option Child) → child_towards f p ≡ o → is_to c o ≡ false
      by None is = refl
      by (Some x) is =
          ⊎_elim
          (λ hit. absurd (not_both (same_path p q) (tied x is hit) apart))
          (λ clear. clear)
          (cases_Bool (same_child c x))

  unseen : (f : Path) (ds : List Placed) (i : ℕ) (d : Placed) (c : Child) → AreDistinct ds → i < length ds
      → child_towards f (get_or ds i d).path ≡ Some c → c.folder ≡ false → is_seen f (take i ds) c ≡ false
  unseen f [] i d c distinct within to document = absurd (omega (arith, within))
  unseen f (e ∷ es) zero d c distinct within to document = refl
  unseen f (e ∷ es) (suc i) d c distinct within to document =
      let rest : i < length es = omega (arith, within) in
      let other = λ (o : Placed). not (same_path e.path o.path) in
      let parts = and_parts (list_all other es) (are_distinct es) distinct in
      let clear = elsewhere f e.path (get_or es i d).path c to document (all_at other es i d parts.0 rest) in
      ap (λ b. b || is_seen f (take i es) c) clear ∙ unseen f es i d c parts.1 rest to document

  pub first_fresh : (f : Path) (ds : List Placed) (i : ℕ) (d : Placed) → AreDistinct ds → i < length ds
      → is_first f (take i ds) (child_towards f (get_or ds i d).path) ≡ is_fresh f (take i ds) (child_towards f (get_or ds i d).path)
  first_fresh f ds i d distinct within = by (child_towards f (get_or ds i d).path) refl
    where
      by : (o : Option Child) → child_towards f (get_or ds i d).path ≡ o → is_first f (take i ds) o ≡ is_fresh f (take i ds) o
      by None is = refl
      by (Some c) is =
          let seen = is_seen f (take i ds) c in
          ⊎_elim
          (λ folder. ap (λ b. not b || not seen) folder)
          (λ document. ap (λ b. not b || not seen) document ∙ sym (ap not (unseen f ds i d c distinct within is document)))
          (cases_Bool c.folder)
