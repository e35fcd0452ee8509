-- What a listener gives and takes back.
use Rattle.std.specs.Prelude.{◌≡◌, ℕ, ◌+◌, List, [], ◌∷◌, ◌++◌, Option, Some, None, Result, Ok, Err, IfSome}
use Rattle.std.specs.Option.{option_map}
use Rattle.rs_face.specs.Causes.{one_more}

-- one more before those that are told
abbrev pub with_first : {C : Type 0} → C → Option (List C) → Option (List C)
with_first one told = option_map (λ them. one ∷ them) told

-- one more behind those that are told
abbrev pub with_last : {C : Type 0} → Option (List C) → C → Option (List C)
with_last told one = option_map (λ them. them ++ one ∷ []) told

-- the first of those to come was given, or there is none, or the call failed and they are as before
abbrev pub GivesNext : {C E : Type 0} → Option (List C) → Option (List C) → Result (Option C) E → Type 0
GivesNext old new (Ok (Some one)) = old ≡ with_first one new
GivesNext old new (Ok None) = (new ≡ old) × IfSome old (λ coming. coming ≡ [])
GivesNext old new (Err fault) = new ≡ old

-- the count of the connections that were given rises by one with each
abbrev pub after_given : {C E : Type 0} → Result (Option C) E → ℕ → ℕ
after_given (Ok (Some one)) count = count + 1
after_given (Ok None) count = count
after_given (Err fault) count = count

-- the count of ends rises by one with each answer that none will come
abbrev pub after_end : {C E : Type 0} → Result (Option C) E → ℕ → ℕ
after_end (Ok (Some one)) count = count
after_end (Ok None) count = one_more count
after_end (Err fault) count = count
