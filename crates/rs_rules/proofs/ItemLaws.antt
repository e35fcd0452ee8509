-- The items of a folder ascend by their keys, and a folder's item has neither kind nor length.
use Rattle.std.proofs.Common.{◌≡◌, ℕ, Bool, true, false, ◌&&◌, cond, List, [], ◌∷◌, ◌++◌, map, fold, Option, Some, None, refl, sym, ap, ◌∙◌, ⊎_elim}
use Rattle.std.specs.declared.cmp.Ordering.{Ordering}
use Rattle.std.specs.declared.cmp.Ordering.TheVariants.{Less, Equal, Greater}
use Rattle.std.specs.List.{list_all, filter_map, cons_option}
use Rattle.std.specs.Ordering.{nat_cmp, bool_cmp, is_eq, is_lt, ordering_then}
use Rattle.std.specs.Cmp.Lexicographic.{slice_cmp, texts_ties}
use Rattle.std.specs.BTreeSet.{insert_key}
use Rattle.std.specs.Str.{bytes_eq}
use Rattle.std.proofs.lemmas.Bool.{cases_Bool, cond-true, cond-false, and_parts, and_from, true≢false}
use Rattle.std.proofs.lemmas.List.Folds.{list_all-append}
use Rattle.std.proofs.lemmas.Slice.Eq.{bytes_eq-Decides}
use Rattle.rs_path.specs.declared.child.Child.{Child}
use Rattle.rs_path.specs.Names.{is_name, has_no_separator}
use Rattle.rs_path.specs.Paths.{Path, is_path}
use Rattle.rs_path.specs.Keys.{key_text}
use Rattle.rs_path.specs.Items.{comes_before, is_item, is_ascending}
use Rattle.rs_path.specs.Children.{key_of, child_cmp, child_at, child_from, child_towards}
use Rattle.rs_rules.specs.declared.doc.Doc.{Doc}
use Rattle.rs_rules.specs.Documents.{doc_in}
use Rattle.rs_rules.specs.Contents.{Contents, paths_in}
use Rattle.rs_rules.specs.Listings.{children, item_at, item_of, items_in}
use Rattle.rs_rules.specs.Laws.{is_sorted}
use Rattle.rs_rules.proofs.ListingLaws.{all-insert, children-sorted}

-- ---- names of children

name_from : (ms ns : List (List ℕ)) (folder : Bool) (c : Child) → list_all is_name ns ≡ true → child_from ms ns folder ≡ Some c → is_name c.name ≡ true
name_from [] [] folder c named there = absurd (cc)
name_from [] (n ∷ []) folder c named there =
    let this : Child = record { name = n; folder = folder } in
    let same : this ≡ c = cc in
    ap (λ (d : Child). is_name d.name) (sym same) ∙ (and_parts (is_name n) true named).0
name_from [] (n ∷ (m ∷ ns)) folder c named there =
    let this : Child = record { name = n; folder = true } in
    let same : this ≡ c = cc in
    ap (λ (d : Child). is_name d.name) (sym same) ∙ (and_parts (is_name n) (is_name m && list_all is_name ns) named).0
name_from (m ∷ ms) [] folder c named there = absurd (cc)
name_from (m ∷ ms) (n ∷ ns) folder c named there =
    let parts = and_parts (is_name n) (list_all is_name ns) named in
    ⊎_elim
    (λ same. name_from ms ns folder c parts.1 (sym (cond-true (bytes_eq m n) (child_from ms ns folder) None same) ∙ there))
    (λ other. let none : None ≡ Some c = sym (cond-false (bytes_eq m n) (child_from ms ns folder) None other) ∙ there in absurd (cc))
    (cases_Bool (bytes_eq m n))

path_named : (p : Path) → is_path p ≡ true → list_all is_name p.names ≡ true
path_named p path = (and_parts (list_all is_name p.names) _ (and_parts (list_all is_name p.names && _) _ path).0).0

names-towards : (f : Path) (paths : List Path) → list_all is_path paths ≡ true → list_all (λ (c : Child). is_name c.name) (filter_map (child_towards f) paths) ≡ true
names-towards f [] each = refl
names-towards f (p ∷ ps) each =
    let parts = and_parts (is_path p) (list_all is_path ps) each in
    elim (child_towards f p) as (λ o. child_towards f p ≡ o → list_all (λ (c : Child). is_name c.name) (cons_option o (filter_map (child_towards f) ps)) ≡ true) [
      | None ↦ λ none. names-towards f ps parts.1
      | Some c ↦ λ there. and_from _ _ (name_from f.names p.names p.folder c (path_named p parts.0) there) (names-towards f ps parts.1)
    ]
    refl

names-fold : (ks xs : List Child) → list_all (λ (c : Child). is_name c.name) ks ≡ true → list_all (λ (c : Child). is_name c.name) xs ≡ true
    → list_all (λ (c : Child). is_name c.name) (fold (insert_key child_cmp) ks xs) ≡ true
names-fold ks [] each more = each
names-fold ks (x ∷ xs) each more =
    let parts = and_parts (is_name x.name) (list_all (λ (c : Child). is_name c.name) xs) more in
    names-fold (insert_key child_cmp ks x) xs (all-insert (λ (c : Child). is_name c.name) x ks parts.0 each) parts.1

pub children-named : (f : Path) (paths : List Path) → list_all is_path paths ≡ true → list_all (λ (c : Child). is_name c.name) (children f paths) ≡ true
children-named f paths each = names-fold [] (filter_map (child_towards f) paths) refl (names-towards f paths each)

-- ---- keys

slash_last : (n : List ℕ) → has_no_separator (n ++ 47 ∷ []) ≡ false
slash_last n = list_all-append _ n (47 ∷ []) ∙ and_false (has_no_separator n)
  where
    and_false : (b : Bool) → (b && false) ≡ false
    and_false true = refl
    and_false false = refl

no_separator : (n : List ℕ) → is_name n ≡ true → has_no_separator n ≡ true
no_separator n name = (and_parts _ (has_no_separator n) (and_parts (_ && has_no_separator n) _ (and_parts _ _ name).0).0).1

key_before : (m n : List ℕ) (a b : Bool) (r : Ordering) → is_name m ≡ true → slice_cmp nat_cmp (key_text m a) (key_text n b) ≡ r
    → is_lt (ordering_then r (bool_cmp a b)) ≡ true → is_lt r ≡ true
key_before m n a b Less name keys low = refl
key_before m n a b Greater name keys low = absurd (true≢false (sym low))
key_before m n true true Equal name keys low = absurd (true≢false (sym low))
key_before m n true false Equal name keys low = absurd (true≢false (sym low))
key_before m n false false Equal name keys low = absurd (true≢false (sym low))
key_before m n false true Equal name keys low =
    let same : m ≡ n ++ 47 ∷ [] = (bytes_eq-Decides m (n ++ 47 ∷ [])).0 (texts_ties m (n ++ 47 ∷ []) ∙ ap is_eq keys) in
    absurd (true≢false (sym (no_separator m name) ∙ ap has_no_separator same ∙ slash_last n))

pub key_less : (c d : Child) → is_name c.name ≡ true → is_lt (child_cmp c d) ≡ true → is_lt (slice_cmp nat_cmp (key_of c) (key_of d)) ≡ true
key_less c d name low = key_before c.name d.name c.folder d.folder (slice_cmp nat_cmp (key_of c) (key_of d)) name refl low

-- ---- items

before_all : (w : Contents) (f : Path) (c : Child) (cs : List Child) → is_name c.name ≡ true → list_all (λ other. is_lt (child_cmp c other)) cs ≡ true
    → list_all (comes_before (item_of w f c)) (map (item_of w f) cs) ≡ true
before_all w f c [] name each = refl
before_all w f c (d ∷ ds) name each =
    let parts = and_parts (is_lt (child_cmp c d)) (list_all (λ other. is_lt (child_cmp c other)) ds) each in
    and_from _ _ (key_less c d name parts.0) (before_all w f c ds name parts.1)

ascending_map : (w : Contents) (f : Path) (cs : List Child) → list_all (λ (c : Child). is_name c.name) cs ≡ true → is_sorted cs ≡ true → is_ascending (map (item_of w f) cs) ≡ true
ascending_map w f [] named sorted = refl
ascending_map w f (c ∷ cs) named sorted =
    let names = and_parts (is_name c.name) (list_all (λ (d : Child). is_name d.name) cs) named in
    let parts = and_parts (list_all (λ other. is_lt (child_cmp c other)) cs) (is_sorted cs) sorted in
    and_from _ _ (before_all w f c cs names.0 parts.0) (ascending_map w f cs names.1 parts.1)

-- the items ascend
pub items-ascending : (w : Contents) (f : Path) → list_all is_path (paths_in w.docs) ≡ true → is_ascending (items_in w f) ≡ true
items-ascending w f each = ascending_map w f (children f (paths_in w.docs)) (children-named f (paths_in w.docs) each) (children-sorted f (paths_in w.docs))

plain_item : (version : ℕ) (c : Child) (o : Option Doc) → is_item (item_at version c (cond c.folder None o)) ≡ true
plain_item version c o = plain c.name c.folder o version
  where
    plain : (name : List ℕ) (folder : Bool) (o : Option Doc) (version : ℕ) → is_item (item_at version (record { name = name; folder = folder }) (cond folder None o)) ≡ true
    plain name true o version = refl
    plain name false o version = refl

plain_map : (w : Contents) (f : Path) (cs : List Child) → list_all is_item (map (item_of w f) cs) ≡ true
plain_map w f [] = refl
plain_map w f (c ∷ cs) = and_from _ _ (plain_item (w.version (child_at f c)) c (doc_in (child_at f c) w.docs)) (plain_map w f cs)

-- a folder's item has neither kind nor length
pub items-plain : (w : Contents) (f : Path) → list_all is_item (items_in w f) ≡ true
items-plain w f = plain_map w f (children f (paths_in w.docs))
