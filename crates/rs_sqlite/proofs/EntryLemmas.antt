-- Entries of rows: one behind the others, one by its number, and how many there are.
use Rattle.std.proofs.Common.{if◌then◌else◌, ◌≡◌, ℕ, zero, suc, ◌+◌, ◌<◌, pos, Bool, true, false, cond, List, [], ◌∷◌, ◌++◌, length, slice_get, Some, refl, ap, ◌∙◌, arith, Less, Equal, Greater, int_cmp}
use Rattle.std.specs.List.{flat_map, list_all}
use Rattle.std.proofs.lemmas.Bool.Decides.{nat_tests}
use Rattle.sqlite.specs.declared.types.Value.TheVariants.{Null, Int}
use Rattle.sqlite.specs.Kind.TheVariants.{Integer}
use Rattle.sqlite.specs.Cast.{cast}
use Rattle.sqlite.specs.Ops.{unary, binary}
use Rattle.sqlite.specs.Order.{Row}
use Rattle.sqlite.specs.Tree.{put_row}
use Rattle.sqlite.specs.Term.{Env, holds}
use Rattle.sqlite_value.proofs.OrderLemmas.{value_cmp-Int}
use Rattle.rs_sqlite.specs.Tables.{entry_at, entries_from}
use Rattle.rs_sqlite.proofs.Texts.{fetch_query}

either : {A : Type 0} (b : Bool) (x : A) → cond b x x ≡ x
either true x = refl
either false x = refl

-- a number that is written to a column of integers, or NULL, is that
pub cast-Int : (n : ℕ) → cast Integer (Int (pos n)) ≡ Int (pos n)
unfolding unary
cast-Int n = either _ (Int (pos n))

pub cast-Null : cast Integer Null ≡ Null
unfolding unary
cast-Null = either _ Null

pub numbers_below : (m n : ℕ) → m < n → int_cmp (pos m) (pos n) ≡ Less
numbers_below m n below = grind (arith, nat_tests)

pub numbers_above : (m n : ℕ) → n < m → int_cmp (pos m) (pos n) ≡ Greater
numbers_above m n above = grind (arith, nat_tests)

pub numbers_same : (n : ℕ) → int_cmp (pos n) (pos n) ≡ Equal
numbers_same n = grind (arith, nat_tests)

-- an entry with the number behind the last one is put behind the last one
pub put_behind : (first : ℕ) (rows : List (List ℕ)) (row : List ℕ) (n : ℕ) → n ≡ first + length rows
    → put_row (entry_at n row) (entries_from first rows) ≡ entries_from first (rows ++ row ∷ [])
put_behind first [] row n is = ap (λ m. entry_at m row ∷ []) (let same : n ≡ first = omega (arith, is) in same)
put_behind first (r ∷ rows) row n is =
    let below : first < n = omega (arith, is) in
    let next : n ≡ (first + 1) + length rows = omega (arith, is) in
    rw (value_cmp-Int, numbers_below first n below) (ap (λ more. entry_at first r ∷ more) (put_behind (first + 1) rows row n next))

-- ---- the entry that has a number

-- each way to fill the slots by an entry that passes the test
abbrev pub picked : ℕ → Row → List Env
picked n entry = if list_all (holds ((Int (pos n) ∷ []) ∷ entry ∷ [])) fetch_query.filter then ((Int (pos n) ∷ []) ∷ entry ∷ []) ∷ [] else []

not_picked_below : (m n : ℕ) (row : List ℕ) → m < n → picked n (entry_at m row) ≡ []
unfolding binary
not_picked_below m n row below = rw (value_cmp-Int, numbers_below m n below) refl

not_picked_above : (m n : ℕ) (row : List ℕ) → n < m → picked n (entry_at m row) ≡ []
unfolding binary
not_picked_above m n row above = rw (value_cmp-Int, numbers_above m n above) refl

picked_same : (n : ℕ) (row : List ℕ) → picked n (entry_at n row) ≡ ((Int (pos n) ∷ []) ∷ entry_at n row ∷ []) ∷ []
unfolding binary
picked_same n row = rw (value_cmp-Int, numbers_same n) refl

none_behind : (first n : ℕ) (rows : List (List ℕ)) → n < first → flat_map (picked n) (entries_from first rows) ≡ []
none_behind first n [] below = refl
none_behind first n (r ∷ rows) below = rw (not_picked_above first n r below) (none_behind (first + 1) n rows (omega (arith, below)))

-- one entry has the number of a row
pub one_picked : (first i : ℕ) (rows : List (List ℕ)) (row : List ℕ) (n : ℕ) → slice_get rows i ≡ Some row → n ≡ first + i
    → flat_map (picked n) (entries_from first rows) ≡ ((Int (pos n) ∷ []) ∷ entry_at n row ∷ []) ∷ []
one_picked first i [] row n is at = absurd cc
one_picked first zero (r ∷ rows) row n at is =
    let same : first ≡ n = omega (arith, is) in
    let here : r ≡ row = cc in
    let this : picked n (entry_at first r) ≡ ((Int (pos n) ∷ []) ∷ entry_at n row ∷ []) ∷ [] =
    ap (λ m. picked n (entry_at m r)) same ∙ ap (λ x. picked n (entry_at n x)) here ∙ picked_same n row in
    rw (this, none_behind (first + 1) n rows (omega (arith, is))) refl
one_picked first (suc i) (r ∷ rows) row n at is =
    let below : first < n = omega (arith, is) in
    rw (not_picked_below first n r below) (one_picked (first + 1) i rows row n at (omega (arith, is)))
