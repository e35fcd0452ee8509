-- Entries of an ordered map: one taken away is all at its path taken away.
use Rattle.std.proofs.Common.{◌≡◌, ℕ, ◌+◌, ◌<◌, ◌≤◌, true, false, not, List, [], ◌∷◌, length, drop, get_or, arith, refl, sym, ap, ◌∙◌, ⊎_elim, subst, zero, suc}
use Rattle.std.specs.declared.cmp.Ordering.TheVariants.{Less}
use Rattle.std.specs.List.{AllByRecursion}
use Rattle.std.specs.List.Sorted.{IsStrictlySortedBy}
use Rattle.std.specs.Ordering.{is_eq}
use Rattle.std.specs.BTreeMap.{is_at}
use Rattle.std.specs.Map.{keys_of, remove_entry}
use Rattle.std.proofs.lemmas.Bool.{cases_Bool, cond-true, cond-false}
use Rattle.std.proofs.lemmas.List.{at_drop_more}
use Rattle.rs_path.specs.Paths.{Path, same_path, path_cmp}
use Rattle.rs_path.specs.PathOrder.{path_ties}
use Rattle.rs_cache.specs.Entries.{clear_at}
use Rattle.rs_cache.specs.Spots.{cleared}
use Rattle.rs_cache.proofs.EntryLemmas.{same_from}

-- what comes behind a path isn't at it
kept_behind : {X : Type 0} (p : Path) (es : List (Path × X)) → AllByRecursion (λ q. path_cmp p q ≡ Less) (keys_of es) → clear_at p es ≡ es
kept_behind p [] behind = refl
kept_behind p (e ∷ es) behind =
    let other : same_path p e.0 ≡ false = path_ties p e.0 ∙ ap is_eq behind.0 in
    cond-true (not (same_path p e.0)) (e ∷ clear_at p es) (clear_at p es) (ap not other)
    ∙ ap (λ l. e ∷ l) (kept_behind p es behind.1)

-- one entry taken away from ascending ones
pub removed-clear : {X : Type 0} (p : Path) (es : List (Path × X)) → IsStrictlySortedBy path_cmp (keys_of es)
    → remove_entry (is_at (path_cmp p)) es ≡ clear_at p es
unfolding IsStrictlySortedBy
removed-clear p [] sorted = refl
removed-clear p (e ∷ es) sorted =
    ⊎_elim
    (λ tied.
    let same : same_path p e.0 ≡ true = path_ties p e.0 ∙ tied in
    let behind = subst (λ k. AllByRecursion (λ q. path_cmp k q ≡ Less) (keys_of es)) (sym (same_from p e.0 same)) sorted.0 in
    cond-true (is_eq (path_cmp p e.0)) es (e ∷ remove_entry (is_at (path_cmp p)) es) tied
    ∙ sym (cond-false (not (same_path p e.0)) (e ∷ clear_at p es) (clear_at p es) (ap not same) ∙ kept_behind p es behind))
    (λ apart.
    let other : same_path p e.0 ≡ false = path_ties p e.0 ∙ apart in
    cond-false (is_eq (path_cmp p e.0)) es (e ∷ remove_entry (is_at (path_cmp p)) es) apart
    ∙ ap (λ l. e ∷ l) (removed-clear p es sorted.1)
    ∙ sym (cond-true (not (same_path p e.0)) (e ∷ clear_at p es) (clear_at p es) (ap not other)))
    (cases_Bool (is_eq (path_cmp p e.0)))

-- ---- values taken away one by one

pub cleared-next : {X : Type 0} (paths : List Path) (i : ℕ) (d : Path) (es : List (Path × X)) → i < length paths
    → cleared (drop i paths) es ≡ cleared (drop (i + 1) paths) (clear_at (get_or paths i d) es)
cleared-next paths i d es within = at_drop_more (λ l. cleared l es) paths i d within

drop_past : (paths : List Path) (k : ℕ) → length paths ≤ k → drop k paths ≡ []
drop_past [] zero past = refl
drop_past [] (suc k) past = refl
drop_past (p ∷ paths) zero past = absurd (omega (arith, past))
drop_past (p ∷ paths) (suc k) past = drop_past paths k (omega (arith, past))

pub cleared-end : {X : Type 0} (paths : List Path) (i : ℕ) (es : List (Path × X)) → length paths ≤ i → cleared (drop i paths) es ≡ es
cleared-end paths i es past = ap (λ l. cleared l es) (drop_past paths i past)
