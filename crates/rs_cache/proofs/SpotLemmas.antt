-- A place that is made and then filled, or taken back.
use Rattle.std.proofs.Common.{◌≡◌, Bool, true, false, cond, List, [], ◌∷◌, Some, None, is_some, refl, sym, ap, ◌∙◌, ⊎_elim}
use Rattle.std.specs.declared.cmp.Ordering.{Ordering}
use Rattle.std.specs.declared.cmp.Ordering.TheVariants.{Less, Equal, Greater}
use Rattle.std.specs.Ordering.{is_eq, match_ordering}
use Rattle.std.specs.BTreeMap.{is_at, insert_entry}
use Rattle.std.specs.Map.{remove_entry}
use Rattle.std.specs.Cmp.{tied_itself}
use Rattle.std.proofs.lemmas.Bool.{cases_Bool, cond-true, cond-false, true≢false}
use Rattle.rs_path.specs.Paths.{Path, path_cmp}
use Rattle.rs_path.specs.PathOrder.{path_cmp_total}
use Rattle.rs_cache.specs.declared.spot.Spot.{Spot}
use Rattle.rs_cache.specs.Entries.{at_path, put_at}
use Rattle.rs_cache.specs.Spots.{with_spot, put_left, put_spot, undone_by, undone, IsSpot}

-- the value that is left to be put gives the whole
filled_by : {X : Type 0} (path : Path) (value : X) (es : List (Path × X)) (there : Bool) → is_some (at_path path es) ≡ there
    → put_left path (cond there (Some value) None) (cond there es (put_at path value es)) ≡ put_at path value es
filled_by path value es true is = refl
filled_by path value es false is = refl

pub spot-filled : {X : Type 0} (spot : Spot X) (path : Path) (value : X) (es : List (Path × X)) → IsSpot spot path value es
    → put_spot spot (with_spot path value es) ≡ put_at path value es
spot-filled spot path value es is =
    ap (λ p. put_left p spot.value (with_spot path value es)) is.there
    ∙ ap (λ v. put_left path v (with_spot path value es)) is.left
    ∙ filled_by path value es (is_some (at_path path es)) refl

-- ---- taken back

back_by : {X : Type 0} (p : Path) (v : X) (e : Path × X) (es : List (Path × X)) (r : Ordering) → path_cmp p e.0 ≡ r
    → is_eq (path_cmp p e.0) ≡ false → remove_entry (is_at (path_cmp p)) (put_at p v es) ≡ es
    → remove_entry (is_at (path_cmp p)) (match_ordering r ((p, v) ∷ e ∷ es) ((e.0, v) ∷ es) (e ∷ insert_entry path_cmp es p v)) ≡ e ∷ es
back_by p v e es Less compared apart rest =
    cond-true (is_eq (path_cmp p p)) (e ∷ es) ((p, v) ∷ remove_entry (is_at (path_cmp p)) (e ∷ es)) (ap is_eq (tied_itself path_cmp_total p))
back_by p v e es Equal compared apart rest = absurd (true≢false (sym (ap is_eq compared) ∙ apart))
back_by p v e es Greater compared apart rest =
    cond-false (is_eq (path_cmp p e.0)) (insert_entry path_cmp es p v) (e ∷ remove_entry (is_at (path_cmp p)) (insert_entry path_cmp es p v)) apart
    ∙ ap (λ l. e ∷ l) rest

-- a path that was new is taken away without a trace
remove-put : {X : Type 0} (p : Path) (v : X) (es : List (Path × X)) → is_some (at_path p es) ≡ false → remove_entry (is_at (path_cmp p)) (put_at p v es) ≡ es
remove-put p v [] new = cond-true (is_eq (path_cmp p p)) [] ((p, v) ∷ []) (ap is_eq (tied_itself path_cmp_total p))
remove-put p v (e ∷ es) new =
    ⊎_elim
    (λ same. absurd (true≢false (sym (ap is_some (cond-true (is_eq (path_cmp p e.0)) (Some e.1) (at_path p es) same)) ∙ new)))
    (λ apart.
    let others = ap is_some (sym (cond-false (is_eq (path_cmp p e.0)) (Some e.1) (at_path p es) apart)) ∙ new in
    back_by p v e es (path_cmp p e.0) refl apart (remove-put p v es others))
    (cases_Bool (is_eq (path_cmp p e.0)))

undone_as : {X : Type 0} (path : Path) (value : X) (es : List (Path × X)) (there : Bool) → is_some (at_path path es) ≡ there
    → undone_by path (cond there (Some value) None) (cond there es (put_at path value es)) ≡ es
undone_as path value es true is = refl
undone_as path value es false is = remove-put path value es is

pub spot-undone : {X : Type 0} (spot : Spot X) (path : Path) (value : X) (es : List (Path × X)) → IsSpot spot path value es
    → undone spot (with_spot path value es) ≡ es
spot-undone spot path value es is =
    ap (λ p. undone_by p spot.value (with_spot path value es)) is.there
    ∙ ap (λ v. undone_by path v (with_spot path value es)) is.left
    ∙ undone_as path value es (is_some (at_path path es)) refl
