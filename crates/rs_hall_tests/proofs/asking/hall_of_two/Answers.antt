use Rattle.std.proofs.Common.{◌≡◌, List, length, suc, refl, ap}
use Rattle.rs_hall.specs.Abreast.{EachTriple, no_triple, one_triple}
use Rattle.rs_hall_tests.proofs.asking.hall_of_two.Goals as goal

-- the last of three lists side by side is as long as the first
as_long : {A B C : Type 0} {Holds : A → B → C → Type 0} {xs : List A} {ys : List B} {zs : List C} → EachTriple Holds xs ys zs → length zs ≡ length xs
as_long no_triple = refl
as_long (one_triple holds rest) = ap (λ n. suc n) (as_long rest)

pub returns-in-Ok-clause-two : goal.returns-in-Ok-clause-two
returns-in-Ok-clause-two c = as_long c.in-Ok.ensures.entrances
