-- The first front of names that passes a test, name by name.
use Rattle.std.proofs.Common.{◌≡◌, ℕ, ◌+◌, ◌<◌, ◌≤◌, Bool, true, false, List, [], ◌∷◌, length, take, drop, Some, None, cond, arith, refl, sym, ap, ◌∙◌, zero, suc, length-take}
use Rattle.std.proofs.lemmas.Bool.{cond-true, cond-false}
use Rattle.std.proofs.lemmas.List.{at_drop_more, take_more}
use Rattle.rs_rules.specs.Clashes.{first_front}

front_step : (test : List (List ℕ) → Bool) (names : List (List ℕ)) (k : ℕ) → k < length names
    → first_front test (take k names) (drop k names)
    ≡ cond (test (take k names)) (Some (length (take k names))) (first_front test (take (k + 1) names) (drop (k + 1) names))
front_step test names k within =
    at_drop_more (first_front test (take k names)) names k [] within
    ∙ ap (λ done. cond (test (take k names)) (Some (length (take k names))) (first_front test done (drop (k + 1) names))) (sym (take_more names k [] within))

pub front_here : (test : List (List ℕ) → Bool) (names : List (List ℕ)) (k : ℕ) → k < length names → test (take k names) ≡ true
    → first_front test (take k names) (drop k names) ≡ Some k
front_here test names k within hit =
    let long : length (take k names) ≡ k = omega (arith, length-take k names) in
    front_step test names k within ∙ cond-true _ _ _ hit ∙ ap Some long

pub front_past : (test : List (List ℕ) → Bool) (names : List (List ℕ)) (k : ℕ) → k < length names → test (take k names) ≡ false
    → first_front test (take k names) (drop k names) ≡ first_front test (take (k + 1) names) (drop (k + 1) names)
front_past test names k within clear = front_step test names k within ∙ cond-false _ _ _ clear

pub front_none : (test : List (List ℕ) → Bool) (names : List (List ℕ)) (k : ℕ) → length names ≤ k
    → first_front test (take k names) (drop k names) ≡ None
front_none test names k past = ap (first_front test (take k names)) (drop_all names k past)
  where
    drop_all : {X : Type 0} (xs : List X) (k : ℕ) → length xs ≤ k → drop k xs ≡ []
    drop_all [] zero past = refl
    drop_all [] (suc k) past = refl
    drop_all (x ∷ xs) zero past = absurd (omega arith)
    drop_all (x ∷ xs) (suc k) past = drop_all xs k (omega arith)
