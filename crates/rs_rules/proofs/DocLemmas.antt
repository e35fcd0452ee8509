-- What a record does to the document at a path, and to the documents below a folder.
use Rattle.std.proofs.Common.{◌≡◌, ◌≢◌, ℕ, Bool, true, false, ◌||◌, List, [], ◌∷◌, ◌++◌, Some, None, Option, refl, sym, ap, ◌∙◌, find}
use Rattle.std.specs.Option.{option_map, option_or}
use Rattle.std.proofs.lemmas.Bool.{cond-true, cond-false, true≢false, false_from_ne_true}
use Rattle.std.proofs.lemmas.List.Folds.{list_any-append}
use Rattle.rs_path.specs.Paths.{Path, same_path, is_root}
use Rattle.rs_path.specs.PathOrder.{same_path-Decides}
use Rattle.rs_path.specs.Below.{is_below}
use Rattle.rs_record.specs.declared.records.Record.{Record}
use Rattle.rs_record.specs.declared.records.Record.TheVariants.{Put, Remove, Grant, Revoke}
use Rattle.rs_rules.specs.declared.doc.Doc.{Doc}
use Rattle.rs_rules.specs.declared.placed.Placed.{Placed}
use Rattle.rs_rules.specs.Documents.{others, placed_document, docs_after, doc_in, has_below}
use Rattle.rs_rules.specs.Versions.{writes_below, is_there}
use Rattle.rs_rules.proofs.FindLemmas.{find-filter_not, find-filter_other, find-append, any-filter_other}

pub same_itself : (p : Path) → same_path p p ≡ true
same_itself p = (same_path-Decides p p).1 refl

pub same_from : (p q : Path) → same_path p q ≡ true → p ≡ q
same_from p q = (same_path-Decides p q).0

pub not_same : (p q : Path) → p ≢ q → same_path p q ≡ false
not_same p q other = false_from_ne_true (same_path p q) (λ same. other (same_from p q same))

-- ---- the document at a path

pub doc_in-others : (p : Path) (ds : List Placed) → doc_in p (others p ds) ≡ None
doc_in-others p ds = ap (option_map (λ (d : Placed). d.doc)) (find-filter_not (λ (d : Placed). same_path p d.path) ds)

apart : (p q : Path) (d : Placed) → p ≢ q → same_path q d.path ≡ true → same_path p d.path ≡ false
apart p q d other same = not_same p d.path (λ here. other (here ∙ sym (same_from q d.path same)))

pub doc_in-others_other : (p q : Path) (ds : List Placed) → p ≢ q → doc_in q (others p ds) ≡ doc_in q ds
doc_in-others_other p q ds other =
    ap (option_map (λ (d : Placed). d.doc))
    (find-filter_other (λ (d : Placed). same_path p d.path) (λ (d : Placed). same_path q d.path) ds (λ d same. apart p q d other same))

doc_or : (o : Option Placed) (r : Option Placed) → option_map (λ (d : Placed). d.doc) (option_or o r) ≡ option_or (option_map (λ (d : Placed). d.doc) o) (option_map (λ (d : Placed). d.doc) r)
doc_or None r = refl
doc_or (Some d) r = refl

pub doc_in-append : (q : Path) (xs ys : List Placed) → doc_in q (xs ++ ys) ≡ option_or (doc_in q xs) (doc_in q ys)
doc_in-append q xs ys =
    ap (option_map (λ (d : Placed). d.doc)) (find-append (λ (d : Placed). same_path q d.path) xs ys)
    ∙ doc_or (find (λ (d : Placed). same_path q d.path) xs) (find (λ (d : Placed). same_path q d.path) ys)

or_none : (o : Option Doc) → option_or o None ≡ o
or_none None = refl
or_none (Some d) = refl

doc_in-one : (q : Path) (d : Placed) → same_path q d.path ≡ true → doc_in q (d ∷ []) ≡ Some d.doc
doc_in-one q d same = ap (option_map (λ (e : Placed). e.doc)) (cond-true (same_path q d.path) (Some d) None same)

doc_in-none : (q : Path) (d : Placed) → same_path q d.path ≡ false → doc_in q (d ∷ []) ≡ None
doc_in-none q d other = ap (option_map (λ (e : Placed). e.doc)) (cond-false (same_path q d.path) (Some d) None other)

-- the path of a Put has the document that was put
pub doc_in-put : (n : ℕ) (p : Path) (k b : List ℕ) (ds : List Placed) → doc_in p (others p ds ++ placed_document n p k b ∷ []) ≡ Some (record { version = n; kind = k; body = b })
doc_in-put n p k b ds =
    doc_in-append p (others p ds) (placed_document n p k b ∷ [])
    ∙ ap (λ o. option_or o (doc_in p (placed_document n p k b ∷ []))) (doc_in-others p ds)
    ∙ doc_in-one p (placed_document n p k b) (same_itself p)

pub doc_in-put_other : (n : ℕ) (p q : Path) (k b : List ℕ) (ds : List Placed) → p ≢ q → doc_in q (others p ds ++ placed_document n p k b ∷ []) ≡ doc_in q ds
doc_in-put_other n p q k b ds other =
    doc_in-append q (others p ds) (placed_document n p k b ∷ [])
    ∙ ap (option_or (doc_in q (others p ds))) (doc_in-none q (placed_document n p k b) (not_same q p (λ same. other (sym same))))
    ∙ or_none (doc_in q (others p ds)) ∙ doc_in-others_other p q ds other

-- ---- documents below a folder

below_apart : (f p : Path) (d : Placed) → is_below f p ≡ false → same_path p d.path ≡ true → is_below f d.path ≡ false
below_apart f p d clear same = ap (is_below f) (sym (same_from p d.path same)) ∙ clear

pub has_below-others : (f p : Path) (ds : List Placed) → is_below f p ≡ false → has_below f (others p ds) ≡ has_below f ds
has_below-others f p ds clear =
    any-filter_other (λ (d : Placed). same_path p d.path) (λ (d : Placed). is_below f d.path) ds (λ d same. below_apart f p d clear same)

or_false : (b : Bool) → (b || (false || false)) ≡ b
or_false true = refl
or_false false = refl

pub has_below-push : (f : Path) (ds : List Placed) (d : Placed) → is_below f d.path ≡ false → has_below f (ds ++ d ∷ []) ≡ has_below f ds
has_below-push f ds d clear =
    list_any-append (λ (e : Placed). is_below f e.path) ds (d ∷ [])
    ∙ ap (λ b. has_below f ds || (b || false)) clear ∙ or_false (has_below f ds)

-- ---- a record that writes nothing below a folder

-- the documents below are as before
pub doc_in-quiet : (f q : Path) (n : ℕ) (r : Record) (ds : List Placed) → writes_below f r ≡ false → is_below f q ≡ true → doc_in q (docs_after n r ds) ≡ doc_in q ds
doc_in-quiet f q n (Put p k b w) ds clear below = doc_in-put_other n p q k b ds (λ same. true≢false (sym below ∙ ap (is_below f) (sym same) ∙ clear))
doc_in-quiet f q n (Remove p w) ds clear below = doc_in-others_other p q ds (λ same. true≢false (sym below ∙ ap (is_below f) (sym same) ∙ clear))
doc_in-quiet f q n (Grant t s) ds clear below = refl
doc_in-quiet f q n (Revoke t) ds clear below = refl

-- and so is whether there are any
pub has_below-quiet : (f : Path) (n : ℕ) (r : Record) (ds : List Placed) → writes_below f r ≡ false → has_below f (docs_after n r ds) ≡ has_below f ds
has_below-quiet f n (Put p k b w) ds clear = has_below-push f (others p ds) (placed_document n p k b) clear ∙ has_below-others f p ds clear
has_below-quiet f n (Remove p w) ds clear = has_below-others f p ds clear
has_below-quiet f n (Grant t s) ds clear = refl
has_below-quiet f n (Revoke t) ds clear = refl

pub is_there-quiet : (f : Path) (n : ℕ) (r : Record) (ds : List Placed) → writes_below f r ≡ false → is_there f (docs_after n r ds) ≡ is_there f ds
is_there-quiet f n r ds clear = ap (λ b. is_root f || b) (has_below-quiet f n r ds clear)
