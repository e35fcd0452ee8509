-- The sum of the lengths of the bodies without the document at a path.
use Rattle.std.proofs.Common.{◌≡◌, ◌+◌, Bool, true, false, not, ◌||◌, List, [], ◌∷◌, length, Some, None, arith, refl, sym, ap, ◌∙◌, ⊎_elim}
use Rattle.std.specs.List.{list_any, list_all}
use Rattle.std.specs.Option.{is_some, option_map}
use Rattle.std.proofs.lemmas.Bool.{cases_Bool, cond-true, cond-false, and_parts, or_parts, true≢false}
use Rattle.std.proofs.lemmas.List.Sums.{sum_by-cons}
use Rattle.rs_path.specs.Paths.{Path, same_path}
use Rattle.rs_rules.specs.declared.doc.Doc.{Doc}
use Rattle.rs_rules.specs.declared.placed.Placed.{Placed}
use Rattle.rs_rules.specs.Documents.{others, doc_in, live_in}
use Rattle.rs_rules.specs.Sound.{are_distinct, AreDistinct}
use Rattle.rs_rules.proofs.DocLemmas.{same_from}
use Rattle.rs_rules.proofs.ListingLaws.{is_some-found}

-- where nothing is at the path, nothing is taken out
others-none : (p : Path) (ds : List Placed) → list_any (λ (d : Placed). same_path p d.path) ds ≡ false → others p ds ≡ ds
others-none p [] none = refl
others-none p (d ∷ ds) none =
    let parts = or_parts (same_path p d.path) (list_any (λ (e : Placed). same_path p e.path) ds) none in
    cond-true (not (same_path p d.path)) (d ∷ others p ds) (others p ds) (ap not parts.0) ∙ ap (λ l. d ∷ l) (others-none p ds parts.1)

pub others-absent : (p : Path) (ds : List Placed) → doc_in p ds ≡ None → others p ds ≡ ds
others-absent p ds none = others-none p ds (sym (is_some-found p ds) ∙ ap is_some none)

pub live-absent : (p : Path) (ds : List Placed) → doc_in p ds ≡ None → live_in (others p ds) ≡ live_in ds
live-absent p ds none = ap live_in (others-absent p ds none)

not_among : (p : Path) (ds : List Placed) → list_all (λ (e : Placed). not (same_path p e.path)) ds ≡ true → list_any (λ (e : Placed). same_path p e.path) ds ≡ false
not_among p [] each = refl
not_among p (d ∷ ds) each =
    let parts = and_parts (not (same_path p d.path)) (list_all (λ (e : Placed). not (same_path p e.path)) ds) each in
    ap (λ b. b || list_any (λ (e : Placed). same_path p e.path) ds) (untrue (same_path p d.path) parts.0) ∙ not_among p ds parts.1
  where
    untrue : (b : Bool) → not b ≡ true → b ≡ false
    untrue true other = absurd (true≢false (sym other))
    untrue false other = refl

some_doc : (a b : Doc) → Some a ≡ Some b → a ≡ b
some_doc a b same = cc

-- the document that is at the path counts once
pub live-present : (p : Path) (ds : List Placed) (doc : Doc) → AreDistinct ds → doc_in p ds ≡ Some doc → live_in (others p ds) + length doc.body ≡ live_in ds
live-present p [] doc distinct there = absurd (cc)
live-present p (d ∷ ds) doc distinct there =
    let parts = and_parts (list_all (λ (e : Placed). not (same_path d.path e.path)) ds) (are_distinct ds) distinct in
    let all : live_in (d ∷ ds) ≡ length d.doc.body + live_in ds = sum_by-cons (λ (e : Placed). length e.doc.body) d ds in
    ⊎_elim
    (λ here.
    let same : p ≡ d.path = same_from p d.path here in
    let doc_is : d.doc ≡ doc = some_doc d.doc doc (sym (ap (option_map (λ (e : Placed). e.doc)) (cond-true (same_path p d.path) (Some d) _ here)) ∙ there) in
    let rest : list_any (λ (e : Placed). same_path p e.path) ds ≡ false =
    ap (λ q. list_any (λ (e : Placed). same_path q e.path) ds) same ∙ not_among d.path ds parts.0 in
    let left : live_in (others p (d ∷ ds)) ≡ live_in ds =
    ap live_in (cond-false (not (same_path p d.path)) (d ∷ others p ds) (others p ds) (ap not here) ∙ others-none p ds rest) in
    let size : length d.doc.body ≡ length doc.body = ap (λ (e : Doc). length e.body) doc_is in
    omega (arith, left, size, all))
    (λ other.
    let later : doc_in p ds ≡ Some doc = sym (ap (option_map (λ (e : Placed). e.doc)) (cond-false (same_path p d.path) (Some d) _ other)) ∙ there in
    let rest : live_in (others p ds) + length doc.body ≡ live_in ds = live-present p ds doc parts.1 later in
    let left : live_in (others p (d ∷ ds)) ≡ length d.doc.body + live_in (others p ds) =
    ap live_in (cond-true (not (same_path p d.path)) (d ∷ others p ds) (others p ds) (ap not other)) ∙ sum_by-cons (λ (e : Placed). length e.doc.body) d (others p ds) in
    omega (arith, left, rest, all))
    (cases_Bool (same_path p d.path))
