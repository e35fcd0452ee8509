-- The laws of the order of children: it is total, and only equal children tie.
use Rattle.std.proofs.Common.{◌≡◌, ℕ, Bool, true, false, List, [], ◌∷◌, refl, sym, ap, ◌∙◌}
use Rattle.std.specs.Bool.{Decides}
use Rattle.std.specs.Str.{bytes_eq}
use Rattle.std.specs.Ordering.{nat_cmp, bool_cmp, as_partial_cmp, is_eq, eq_by_cmp}
use Rattle.std.specs.Cmp.{IsTotalOrder, IsEquivalence, IsPartialOrder, partial_order_from_agreeing_total, booleans_Decides, bool_cmp_total, bool_eq_equiv, tied_itself, both_ways}
use Rattle.std.specs.Cmp.Lexicographic.{slice_cmp, texts_ties}
use Rattle.std.proofs.lemmas.Bool.{and_parts, and_from}
use Rattle.std.proofs.lemmas.Cmp.{nat_list_cmp_total, nat_list_eq_equiv, on_total, on_equiv, then_total, and_equiv}
use Rattle.std.proofs.lemmas.List.{append_cancel_right}
use Rattle.std.proofs.lemmas.Slice.Eq.{bytes_eq-Decides}
use mathlib.Core.Bool.{beq}
use Rattle.rs_path.specs.declared.child.Child.{Child}
use Rattle.rs_path.specs.Keys.{key_text}
use Rattle.rs_path.specs.Children.{key_of, same_child, child_cmp}
use Rattle.rs_path.specs.PathOrder.{is_eq-then, booleans_tie}

-- the test tells whether two children are equal
pub same_child-Decides : (c d : Child) → Decides (same_child c d) (c ≡ d)
same_child-Decides c d = (
  λ same.
      let parts = and_parts (bytes_eq c.name d.name) (beq c.folder d.folder) same in
      let name = (bytes_eq-Decides c.name d.name).0 parts.0 in
      let folder = (booleans_Decides c.folder d.folder).0 parts.1 in
      let Record : List ℕ → Bool → Child = λ n f. record { name = n; folder = f } in
      ap (λ n. Record n c.folder) name ∙ ap (λ f. Record d.name f) folder,
  λ equal. and_from _ _ ((bytes_eq-Decides c.name d.name).1 (ap (λ (r : Child). r.name) equal)) ((booleans_Decides c.folder d.folder).1 (ap (λ (r : Child). r.folder) equal)),
)

pub same_child_equiv : IsEquivalence same_child
same_child_equiv = and_equiv (on_equiv (λ (c : Child). c.name) nat_list_eq_equiv) (on_equiv (λ (c : Child). c.folder) bool_eq_equiv)

pub child_cmp_total : IsTotalOrder child_cmp
child_cmp_total = then_total (on_total key_of nat_list_cmp_total) (on_total (λ (c : Child). c.folder) bool_cmp_total)

-- names are equal where the keys are, of two folders or two documents
same_name : (m n : List ℕ) (folder : Bool) → key_text m folder ≡ key_text n folder → m ≡ n
same_name m n true same = append_cancel_right m n (47 ∷ []) same
same_name m n false same = same

-- two children tie where they are equal, and nowhere else
pub child_ties : (c d : Child) → same_child c d ≡ eq_by_cmp child_cmp c d
child_ties c d =
    both_ways (same_child c d) (is_eq (child_cmp c d))
    (λ same. let equal = (same_child-Decides c d).0 same in ap is_eq (ap (child_cmp c) (sym equal) ∙ tied_itself child_cmp_total c))
    (λ tied.
    let parts = and_parts (is_eq (slice_cmp nat_cmp (key_of c) (key_of d))) (is_eq (bool_cmp c.folder d.folder)) (sym (is_eq-then (slice_cmp nat_cmp (key_of c) (key_of d)) (bool_cmp c.folder d.folder)) ∙ tied) in
    let flags = booleans_tie c.folder d.folder ∙ parts.1 in
    let folder = (booleans_Decides c.folder d.folder).0 flags in
    let keys = (bytes_eq-Decides (key_of c) (key_of d)).0 (texts_ties (key_of c) (key_of d) ∙ parts.0) in
    let name = same_name c.name d.name c.folder (keys ∙ ap (key_text d.name) (sym folder)) in
    and_from _ _ ((bytes_eq-Decides c.name d.name).1 name) flags)

pub child_order : IsPartialOrder same_child (as_partial_cmp child_cmp)
child_order = partial_order_from_agreeing_total child_cmp child_cmp_total (λ c d. refl) child_ties
