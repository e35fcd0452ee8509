-- The scopes of tokens after a grant, a revocation, and a grant that is taken back.
use Rattle.std.proofs.Common.{◌≡◌, ℕ, true, cond, List, Option, None, Some, refl, sym, ap, ◌∙◌, subst, ⊎_elim}
use Rattle.std.specs.Prelude.{is_none}
use Rattle.std.specs.BTreeMap.{BTreeMap, Updates}
use Rattle.std.specs.Cmp.Lexicographic.{slice_cmp, texts_ties}
use Rattle.std.specs.Ordering.{nat_cmp}
use Rattle.std.specs.Str.{bytes_eq}
use Rattle.std.proofs.lemmas.Bool.{cases_Bool, cond-true, cond-false, true≢false}
use Rattle.std.proofs.lemmas.Slice.Eq.{bytes_eq-Decides}
use Rattle.rs_scope.specs.declared.scope.Scope.{Scope}
use Rattle.rs_user.specs.Grants.{scopes_in}

-- a map that has other scopes at one token
pub scopes_updated : (token other : List ℕ) (scopes : Option (List Scope)) (old new : BTreeMap (List ℕ) (List Scope))
    → Updates (slice_cmp nat_cmp) old new token scopes → scopes_in other new.entries ≡ cond (bytes_eq token other) scopes (scopes_in other old.entries)
scopes_updated token other scopes old new updates =
    updates.0 other ∙ ap (λ same. cond same scopes (scopes_in other old.entries)) (sym (texts_ties token other))

nothing : {X : Type 0} (o : Option X) → is_none o ≡ true → o ≡ None
nothing None is = refl
nothing (Some x) is = absurd (true≢false (sym is))

-- the scopes of a token that is granted some and then none are those of a token that had none
pub scopes_back : (scopes_of : List ℕ → Option (List Scope)) (token other : List ℕ) (given : Option (List Scope)) → is_none (scopes_of token) ≡ true
    → cond (bytes_eq token other) None (cond (bytes_eq token other) given (scopes_of other)) ≡ scopes_of other
scopes_back scopes_of token other given none =
    let inner = cond (bytes_eq token other) given (scopes_of other) in
    ⊎_elim
    (λ hit. cond-true (bytes_eq token other) None inner hit
    ∙ sym (nothing (scopes_of other) (subst (λ to. is_none (scopes_of to) ≡ true) ((bytes_eq-Decides token other).0 hit) none)))
    (λ clear. cond-false (bytes_eq token other) None inner clear ∙ cond-false (bytes_eq token other) given (scopes_of other) clear)
    (cases_Bool (bytes_eq token other))
