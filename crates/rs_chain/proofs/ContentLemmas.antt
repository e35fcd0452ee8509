-- The documents after a Put and after a Remove.
use Rattle.std.proofs.Common.{◌≡◌, ℕ, Bool, true, false, not, ◌||◌, cond, List, [], ◌∷◌, ◌++◌, find, Option, Some, None, is_some, refl, sym, ap, ◌∙◌, ⊎_elim}
use Rattle.std.specs.List.{list_all}
use Rattle.std.specs.Option.{option_map}
use Rattle.std.proofs.lemmas.Bool.{cases_Bool, cond-true, cond-false, and_from, true≢false}
use Rattle.std.proofs.lemmas.List.Folds.{list_all-append}
use Rattle.rs_path.specs.Paths.{Path, same_path}
use Rattle.rs_rules.specs.declared.placed.Placed.{Placed}
use Rattle.rs_rules.specs.Documents.{others, placed_document, doc_in}
use Rattle.rs_rules.specs.Sound.{are_documents}
use Rattle.rs_rules.proofs.Cited.{same_itself, same_from, not_same, find-filter_not, find-filter_other, all-filter}

pub removed_none : (p : Path) (ds : List Placed) → doc_in p (others p ds) ≡ None
removed_none p ds = ap (option_map (λ (d : Placed). d.doc)) (find-filter_not (λ (d : Placed). same_path p d.path) ds)

pub removed_other : (p q : Path) (ds : List Placed) → (p ≡ q → ⊥) → doc_in q (others p ds) ≡ doc_in q ds
removed_other p q ds other =
    ap (option_map (λ (d : Placed). d.doc))
    (find-filter_other (λ (d : Placed). same_path p d.path) (λ (d : Placed). same_path q d.path) ds
    (λ d same. not_same p d.path (λ here. other (here ∙ sym (same_from q d.path same)))))

-- one document more at the end
found_past : (q : Path) (xs : List Placed) (d : Placed) → same_path q d.path ≡ false → find (λ (e : Placed). same_path q e.path) (xs ++ d ∷ []) ≡ find (λ (e : Placed). same_path q e.path) xs
found_past q [] d other = cond-false (same_path q d.path) (Some d) None other
found_past q (x ∷ xs) d other = ap (cond (same_path q x.path) (Some x)) (found_past q xs d other)

found_last : (q : Path) (xs : List Placed) (d : Placed) → same_path q d.path ≡ true → find (λ (e : Placed). same_path q e.path) xs ≡ None → find (λ (e : Placed). same_path q e.path) (xs ++ d ∷ []) ≡ Some d
found_last q [] d here none = cond-true (same_path q d.path) (Some d) None here
found_last q (x ∷ xs) d here none =
    ⊎_elim
    (λ hit. let clash : Some x ≡ None = sym (cond-true (same_path q x.path) (Some x) (find (λ (e : Placed). same_path q e.path) xs) hit) ∙ none in absurd (cc))
    (λ clear.
    cond-false (same_path q x.path) (Some x) (find (λ (e : Placed). same_path q e.path) (xs ++ d ∷ [])) clear
    ∙ found_last q xs d here (sym (cond-false (same_path q x.path) (Some x) (find (λ (e : Placed). same_path q e.path) xs) clear) ∙ none))
    (cases_Bool (same_path q x.path))

pub put_found : (n : ℕ) (p : Path) (k b : List ℕ) (ds : List Placed) → doc_in p (others p ds ++ placed_document n p k b ∷ []) ≡ Some (record { version = n; kind = k; body = b })
put_found n p k b ds =
    ap (option_map (λ (d : Placed). d.doc))
    (found_last p (others p ds) (placed_document n p k b) (same_itself p) (find-filter_not (λ (d : Placed). same_path p d.path) ds))

pub put_other : (n : ℕ) (p q : Path) (k b : List ℕ) (ds : List Placed) → (p ≡ q → ⊥) → doc_in q (others p ds ++ placed_document n p k b ∷ []) ≡ doc_in q ds
put_other n p q k b ds other =
    ap (option_map (λ (d : Placed). d.doc)) (found_past q (others p ds) (placed_document n p k b) (not_same q p (λ same. other (sym same))))
    ∙ removed_other p q ds other

-- documents stay documents
pub others_plain : (p : Path) (ds : List Placed) → are_documents ds ≡ true → are_documents (others p ds) ≡ true
others_plain p ds plain = all-filter (λ (d : Placed). not (same_path p d.path)) (λ (d : Placed). not d.path.folder) ds plain

pub put_plain : (n : ℕ) (p : Path) (k b : List ℕ) (ds : List Placed) → p.folder ≡ false → are_documents ds ≡ true → are_documents (others p ds ++ placed_document n p k b ∷ []) ≡ true
put_plain n p k b ds document plain =
    list_all-append (λ (d : Placed). not d.path.folder) (others p ds) (placed_document n p k b ∷ [])
    ∙ and_from _ _ (others_plain p ds plain) (and_from _ _ (ap not document) refl)
