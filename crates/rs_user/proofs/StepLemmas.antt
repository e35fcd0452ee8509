-- The first reply of steps.
use Rattle.std.proofs.Common.{◌≡◌, ℕ, List, [], ◌∷◌, ◌++◌, Option, Some, None, refl, ap, ◌∙◌}
use Rattle.std.specs.Prelude.{unwrap_or}
use Rattle.std.specs.Option.{option_or}
use Rattle.rs_rules.specs.declared.call.Call.{Call}
use Rattle.rs_rules.specs.declared.reply.Reply.{Reply}
use Rattle.rs_rules.specs.Snapshots.{Snapshot}
use Rattle.rs_rules.specs.Answers.{first_of, early_steps, place_steps, limit_steps, last_step, answer_call_in}

or_assoc : {X : Type 0} (a b c : Option X) → option_or a (option_or b c) ≡ option_or (option_or a b) c
or_assoc None b c = refl
or_assoc (Some x) b c = refl

-- steps, and then other steps
pub first_of_append : (xs ys : List (Option Reply)) → first_of (xs ++ ys) ≡ option_or (first_of xs) (first_of ys)
first_of_append [] ys = refl
first_of_append (x ∷ xs) ys = ap (option_or x) (first_of_append xs ys) ∙ or_assoc x (first_of xs) (first_of ys)

-- the reply of the first steps comes before all others
pub first_stays : (xs ys : List (Option Reply)) (reply : Reply) → first_of xs ≡ Some reply → first_of (xs ++ ys) ≡ Some reply
first_stays xs ys reply is = first_of_append xs ys ∙ ap (λ o. option_or o (first_of ys)) is

-- where the first steps have none, the other steps' comes first
pub first_goes_on : (xs ys : List (Option Reply)) → first_of xs ≡ None → first_of (xs ++ ys) ≡ first_of ys
first_goes_on xs ys none = first_of_append xs ys ∙ ap (λ o. option_or o (first_of ys)) none

-- where access isn't refused, a reply of the steps 4 to 9 is the answer
pub place_answers : (s : Snapshot) (quota : ℕ) (c : Call) (refused : Option Reply) (reply : Reply)
    → first_of (early_steps s c) ≡ option_or refused (first_of (place_steps s c)) → refused ≡ None → first_of (place_steps s c) ≡ Some reply
    → answer_call_in s quota c ≡ reply
place_answers s quota c refused reply access none place =
    ap (λ o. unwrap_or (option_or o (first_of (limit_steps s quota c))) (last_step s c c.method))
    (access ∙ ap (λ o. option_or o (first_of (place_steps s c))) none ∙ place)

-- an option that isn't Some
pub none_unless : {X : Type 0} (o : Option X) → ((x : X) → o ≡ Some x → ⊥) → o ≡ None
none_unless None never = refl
none_unless (Some x) never = absurd (never x refl)
