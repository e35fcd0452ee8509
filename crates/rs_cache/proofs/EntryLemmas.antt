-- What lists of values by path hold after a value was put, or some were taken away.
use Rattle.std.proofs.Common.{◌≡◌, Bool, true, false, not, cond, ◌≢◌, List, [], ◌∷◌, Some, None, Option, refl, sym, ap, ◌∙◌, ⊎_elim, filter}
use Rattle.std.specs.declared.cmp.Ordering.{Ordering}
use Rattle.std.specs.declared.cmp.Ordering.TheVariants.{Less, Equal, Greater}
use Rattle.std.specs.Ordering.{is_eq, match_ordering}
use Rattle.std.specs.BTreeMap.{is_at, insert_entry}
use Rattle.std.specs.Map.{lookup}
use Rattle.std.specs.Cmp.{tied_itself}
use Rattle.std.proofs.lemmas.Bool.{cases_Bool, cond-true, cond-false, true≢false}
use Rattle.rs_path.specs.Paths.{Path, same_path, path_cmp}
use Rattle.rs_path.specs.PathOrder.{same_path-Decides, path_cmp_total, path_ties}
use Rattle.rs_path.specs.Below.{is_below}
use Rattle.rs_cache.specs.Entries.{at_path, put_at, clear_at, clear_above, set_at}

-- ---- equal paths

pub same_itself : (p : Path) → same_path p p ≡ true
same_itself p = (same_path-Decides p p).1 refl

pub same_from : (p q : Path) → same_path p q ≡ true → p ≡ q
same_from p q = (same_path-Decides p q).0

-- paths that differ one way differ the other
pub turned : (p q : Path) → same_path p q ≡ false → same_path q p ≡ false
turned p q other =
    ⊎_elim
    (λ same. absurd (true≢false (sym ((same_path-Decides p q).1 (sym (same_from q p same))) ∙ other)))
    (λ apart. apart)
    (cases_Bool (same_path q p))

-- a path ties with itself, and with none that a test tells from it
tied_own : (p : Path) → is_eq (path_cmp p p) ≡ true
tied_own p = ap is_eq (tied_itself path_cmp_total p)

tied_apart : (test : Path → Bool) (q k : Path) → test q ≢ test k → is_eq (path_cmp q k) ≡ false
tied_apart test q k differ =
    ⊎_elim
    (λ same. absurd (differ (ap test (same_from q k same))))
    (λ other. sym (path_ties q k) ∙ other)
    (cases_Bool (same_path q k))

tied_other : (q k : Path) → same_path q k ≡ false → is_eq (path_cmp q k) ≡ false
tied_other q k other = sym (path_ties q k) ∙ other

-- ---- put

put_by : {X : Type 0} (p : Path) (v : X) (e : Path × X) (es : List (Path × X)) (r : Ordering) → path_cmp p e.0 ≡ r
    → at_path p (put_at p v es) ≡ Some v
    → lookup (is_at (path_cmp p)) (match_ordering r ((p, v) ∷ e ∷ es) ((e.0, v) ∷ es) (e ∷ insert_entry path_cmp es p v)) ≡ Some v
put_by p v e es Less compared rest = cond-true (is_eq (path_cmp p p)) (Some v) (at_path p (e ∷ es)) (tied_own p)
put_by p v e es Equal compared rest = cond-true (is_eq (path_cmp p e.0)) (Some v) (at_path p es) (ap is_eq compared)
put_by p v e es Greater compared rest = cond-false (is_eq (path_cmp p e.0)) (Some e.1) (at_path p (put_at p v es)) (ap is_eq compared) ∙ rest

-- the value that was put is there
pub at_path-put : {X : Type 0} (p : Path) (v : X) (es : List (Path × X)) → at_path p (put_at p v es) ≡ Some v
at_path-put p v [] = cond-true (is_eq (path_cmp p p)) (Some v) None (tied_own p)
at_path-put p v (e ∷ es) = put_by p v e es (path_cmp p e.0) refl (at_path-put p v es)

differ_by : (p q k : Path) → same_path q p ≡ false → is_eq (path_cmp p k) ≡ true → is_eq (path_cmp q k) ≡ false
differ_by p q k other tied =
    tied_apart (same_path p) q k (λ same. true≢false (sym (path_ties p k ∙ tied) ∙ sym same ∙ turned q p other))

put_other_by : {X : Type 0} (q p : Path) (v : X) (e : Path × X) (es : List (Path × X)) (r : Ordering) → path_cmp p e.0 ≡ r
    → same_path q p ≡ false → at_path q (put_at p v es) ≡ at_path q es
    → lookup (is_at (path_cmp q)) (match_ordering r ((p, v) ∷ e ∷ es) ((e.0, v) ∷ es) (e ∷ insert_entry path_cmp es p v)) ≡ at_path q (e ∷ es)
put_other_by q p v e es Less compared other rest = cond-false (is_eq (path_cmp q p)) (Some v) (at_path q (e ∷ es)) (tied_other q p other)
put_other_by q p v e es Equal compared other rest =
    let clear = differ_by p q e.0 other (ap is_eq compared) in
    cond-false (is_eq (path_cmp q e.0)) (Some v) (at_path q es) clear
    ∙ sym (cond-false (is_eq (path_cmp q e.0)) (Some e.1) (at_path q es) clear)
put_other_by q p v e es Greater compared other rest = ap (cond (is_eq (path_cmp q e.0)) (Some e.1)) rest

-- other paths have what they had
pub at_path-put_other : {X : Type 0} (q p : Path) (v : X) (es : List (Path × X)) → same_path q p ≡ false → at_path q (put_at p v es) ≡ at_path q es
at_path-put_other q p v [] other = cond-false (is_eq (path_cmp q p)) (Some v) None (tied_other q p other)
at_path-put_other q p v (e ∷ es) other = put_other_by q p v e es (path_cmp p e.0) refl other (at_path-put_other q p v es other)

-- ---- taken away by a test of paths

abbrev left : {X : Type 0} → (Path → Bool) → List (Path × X) → List (Path × X)
left {X} drop es = filter (λ (e : Path × X). not (drop e.0)) es

-- what the test takes away is there no more
pub at_path-left_none : {X : Type 0} (drop : Path → Bool) (q : Path) (es : List (Path × X)) → drop q ≡ true → at_path q (left drop es) ≡ None
at_path-left_none drop q [] gone = refl
at_path-left_none drop q (e ∷ es) gone =
    let rest = at_path-left_none drop q es gone in
    ⊎_elim
    (λ hit. ap (at_path q) (cond-false (not (drop e.0)) (e ∷ left drop es) (left drop es) (ap not hit)) ∙ rest)
    (λ clear. ap (at_path q) (cond-true (not (drop e.0)) (e ∷ left drop es) (left drop es) (ap not clear))
    ∙ cond-false (is_eq (path_cmp q e.0)) (Some e.1) (at_path q (left drop es)) (tied_apart drop q e.0 (λ same. true≢false (sym gone ∙ same ∙ clear)))
    ∙ rest)
    (cases_Bool (drop e.0))

-- everything else is as it was
pub at_path-left : {X : Type 0} (drop : Path → Bool) (q : Path) (es : List (Path × X)) → drop q ≡ false → at_path q (left drop es) ≡ at_path q es
at_path-left drop q [] stays = refl
at_path-left drop q (e ∷ es) stays =
    let rest = at_path-left drop q es stays in
    ⊎_elim
    (λ hit. ap (at_path q) (cond-false (not (drop e.0)) (e ∷ left drop es) (left drop es) (ap not hit)) ∙ rest
    ∙ sym (cond-false (is_eq (path_cmp q e.0)) (Some e.1) (at_path q es) (tied_apart drop q e.0 (λ same. true≢false (sym hit ∙ sym same ∙ stays)))))
    (λ clear. ap (at_path q) (cond-true (not (drop e.0)) (e ∷ left drop es) (left drop es) (ap not clear))
    ∙ ap (cond (is_eq (path_cmp q e.0)) (Some e.1)) rest)
    (cases_Bool (drop e.0))

-- ---- cleared and set

pub at_path-clear : {X : Type 0} (p : Path) (es : List (Path × X)) → at_path p (clear_at p es) ≡ None
at_path-clear p es = at_path-left_none (same_path p) p es (same_itself p)

pub at_path-clear_other : {X : Type 0} (q p : Path) (es : List (Path × X)) → same_path q p ≡ false → at_path q (clear_at p es) ≡ at_path q es
at_path-clear_other q p es other = at_path-left (same_path p) q es (turned q p other)

pub at_path-above : {X : Type 0} (f p : Path) (es : List (Path × X)) → is_below f p ≡ true → at_path f (clear_above p es) ≡ None
at_path-above f p es below = at_path-left_none (λ g. is_below g p) f es below

pub at_path-not_above : {X : Type 0} (f p : Path) (es : List (Path × X)) → is_below f p ≡ false → at_path f (clear_above p es) ≡ at_path f es
at_path-not_above f p es clear = at_path-left (λ g. is_below g p) f es clear

pub at_path-set : {X : Type 0} (p : Path) (o : Option X) (es : List (Path × X)) → at_path p (set_at p o es) ≡ o
at_path-set p None es = at_path-clear p es
at_path-set p (Some v) es = at_path-put p v es

pub at_path-set_other : {X : Type 0} (q p : Path) (o : Option X) (es : List (Path × X)) → same_path q p ≡ false → at_path q (set_at p o es) ≡ at_path q es
at_path-set_other q p None es other = at_path-clear_other q p es other
at_path-set_other q p (Some v) es other = at_path-put_other q p v es other
