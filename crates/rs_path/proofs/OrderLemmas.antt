-- The order of paths, from their plain texts alone.
use Rattle.std.proofs.Common.{◌≡◌, true, refl, sym, ap, ◌∙◌}
use Rattle.std.specs.declared.cmp.Ordering.{Ordering}
use Rattle.std.specs.declared.cmp.Ordering.TheVariants.{Less, Equal, Greater}
use Rattle.std.specs.Str.{bytes_eq}
use Rattle.std.specs.Ordering.{nat_cmp, bool_cmp, on, then_cmp, ordering_then, is_eq}
use Rattle.std.specs.Cmp.{IsTotalOrder, both_ways, bool_cmp_total, tied_itself}
use Rattle.std.specs.Cmp.Lexicographic.{slice_cmp, texts_ties, lists_total}
use Rattle.std.proofs.lemmas.Cmp.{nat_list_cmp_total, on_total, then_total}
use Rattle.std.proofs.lemmas.Slice.Eq.{bytes_eq-Decides}
use Rattle.rs_path.specs.Paths.{Path, is_path, same_path, plain_text, path_cmp}
use Rattle.rs_path.specs.PathOrder.{same_path-Decides}
use Rattle.rs_path.proofs.RoundTrips.{same_from_plain_text}

-- paths are equal where their texts are
pub bytes_eq-plain_text : (p q : Path) → is_path p ≡ true → is_path q ≡ true → bytes_eq (plain_text p) (plain_text q) ≡ same_path p q
bytes_eq-plain_text p q is_p is_q =
    both_ways (bytes_eq (plain_text p) (plain_text q)) (same_path p q)
    (λ texts. (same_path-Decides p q).1 (same_from_plain_text p q is_p is_q ((bytes_eq-Decides (plain_text p) (plain_text q)).0 texts)))
    (λ same. (bytes_eq-Decides (plain_text p) (plain_text q)).1 (ap plain_text ((same_path-Decides p q).0 same)))

-- what is known without the tie is known with it
pub then_known : (r s : Ordering) → (r ≡ Equal → s ≡ Equal) → r ≡ ordering_then r s
then_known Less s rest = refl
then_known Equal s rest = sym (rest refl)
then_known Greater s rest = refl

-- what tells apart what is no path
abbrev tie_cmp : Path → Path → Ordering
tie_cmp = then_cmp (on (λ (p : Path). p.names) (slice_cmp (slice_cmp nat_cmp))) (on (λ (p : Path). p.folder) bool_cmp)

tie_total : IsTotalOrder tie_cmp
tie_total = then_total (on_total (λ (p : Path). p.names) (lists_total nat_list_cmp_total)) (on_total (λ (p : Path). p.folder) bool_cmp_total)

-- the order of paths is that of their texts
pub slice_cmp-plain_text : (p q : Path) → is_path p ≡ true → is_path q ≡ true → slice_cmp nat_cmp (plain_text p) (plain_text q) ≡ path_cmp p q
slice_cmp-plain_text p q is_p is_q =
    then_known (slice_cmp nat_cmp (plain_text p) (plain_text q)) (tie_cmp p q)
    (λ tied.
    let texts = (bytes_eq-Decides (plain_text p) (plain_text q)).0 (texts_ties (plain_text p) (plain_text q) ∙ ap is_eq tied) in
    ap (tie_cmp p) (sym (same_from_plain_text p q is_p is_q texts)) ∙ tied_itself tie_total p)
