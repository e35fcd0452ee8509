-- The laws of the order of paths: it is total, and only equal paths tie.
use Rattle.std.proofs.Common.{◌≡◌, ℕ, Bool, true, false, ◌&&◌, List, refl, sym, ap, ◌∙◌}
use Rattle.std.specs.declared.cmp.Ordering.{Ordering}
use Rattle.std.specs.declared.cmp.Ordering.TheVariants.{Less, Equal, Greater}
use Rattle.std.specs.Bool.{Decides}
use Rattle.std.specs.Str.{bytes_eq}
use Rattle.std.specs.Ordering.{nat_cmp, bool_cmp, ordering_then, as_partial_cmp, is_eq, eq_by_cmp}
use Rattle.std.specs.Cmp.{IsTotalOrder, IsEquivalence, IsPartialOrder, partial_order_from_agreeing_total, booleans_Decides, bool_cmp_total, bool_eq_equiv, tied_itself, both_ways}
use Rattle.std.specs.Cmp.Lexicographic.{slice_cmp, pointwise, pointwise_decides, lists_ties, texts_ties, lists_total, lists_equiv}
use Rattle.std.proofs.lemmas.Bool.{and_parts, and_from}
use Rattle.std.proofs.lemmas.Cmp.{nat_list_cmp_total, nat_list_eq_equiv, on_total, on_equiv, then_total, and_equiv}
use Rattle.std.proofs.lemmas.Slice.Eq.{bytes_eq-Decides}
use mathlib.Core.Bool.{beq}
use Rattle.rs_path.specs.Paths.{Path, same_path, plain_text, path_cmp}

same_names : (ms ns : List (List ℕ)) → Decides (pointwise bytes_eq ms ns) (ms ≡ ns)
same_names = pointwise_decides bytes_eq-Decides

-- the test tells whether two paths are equal
pub same_path-Decides : (p q : Path) → Decides (same_path p q) (p ≡ q)
same_path-Decides p q = (
  λ same.
      let parts = and_parts (pointwise bytes_eq p.names q.names) (beq p.folder q.folder) same in
      let names = (same_names p.names q.names).0 parts.0 in
      let folder = (booleans_Decides p.folder q.folder).0 parts.1 in
      let Record : List (List ℕ) → Bool → Path = λ ns f. record { names = ns; folder = f } in
      ap (λ ns. Record ns p.folder) names ∙ ap (λ f. Record q.names f) folder,
  λ equal. and_from _ _ ((same_names p.names q.names).1 (ap (λ (r : Path). r.names) equal)) ((booleans_Decides p.folder q.folder).1 (ap (λ (r : Path). r.folder) equal)),
)

pub same_path_equiv : IsEquivalence same_path
same_path_equiv =
    and_equiv (on_equiv (λ (p : Path). p.names) (lists_equiv nat_list_eq_equiv)) (on_equiv (λ (p : Path). p.folder) bool_eq_equiv)

pub path_cmp_total : IsTotalOrder path_cmp
path_cmp_total =
    then_total (on_total plain_text nat_list_cmp_total)
    (then_total (on_total (λ (p : Path). p.names) (lists_total nat_list_cmp_total)) (on_total (λ (p : Path). p.folder) bool_cmp_total))

pub is_eq-then : (r s : Ordering) → is_eq (ordering_then r s) ≡ (is_eq r && is_eq s)
is_eq-then Less s = refl
is_eq-then Equal s = refl
is_eq-then Greater s = refl

pub booleans_tie : (a b : Bool) → beq a b ≡ is_eq (bool_cmp a b)
booleans_tie true true = refl
booleans_tie true false = refl
booleans_tie false true = refl
booleans_tie false false = refl

-- two paths tie where they are equal, and nowhere else
pub path_ties : (p q : Path) → same_path p q ≡ eq_by_cmp path_cmp p q
path_ties p q =
    both_ways (same_path p q) (is_eq (path_cmp p q))
    (λ same. let equal = (same_path-Decides p q).0 same in ap is_eq (ap (path_cmp p) (sym equal) ∙ tied_itself path_cmp_total p))
    (λ tied.
    let texts = and_parts (is_eq (slice_cmp nat_cmp (plain_text p) (plain_text q))) _ (sym (is_eq-then (slice_cmp nat_cmp (plain_text p) (plain_text q)) (ordering_then (slice_cmp (slice_cmp nat_cmp) p.names q.names) (bool_cmp p.folder q.folder))) ∙ tied) in
    let rest = and_parts (is_eq (slice_cmp (slice_cmp nat_cmp) p.names q.names)) (is_eq (bool_cmp p.folder q.folder)) (sym (is_eq-then (slice_cmp (slice_cmp nat_cmp) p.names q.names) (bool_cmp p.folder q.folder)) ∙ texts.1) in
    and_from _ _ (lists_ties (slice_cmp nat_cmp) texts_ties p.names q.names ∙ rest.0) (booleans_tie p.folder q.folder ∙ rest.1))

pub path_order : IsPartialOrder same_path (as_partial_cmp path_cmp)
path_order = partial_order_from_agreeing_total path_cmp path_cmp_total (λ p q. refl) path_ties
