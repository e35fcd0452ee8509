-- Rows, taken one after another, in runs.
use Rattle.std.specs.Prelude.{Vec}
use Rattle.std.proofs.Common.{◌≡◌, ℕ, ◌+◌, zero, suc, ◌≤◌, List, [], ◌∷◌, ◌++◌, length, take, drop, slice_get, Option, Some, None, IfSome, Ok, Err, arith, refl, sym, ap, ◌∙◌, subst, append-nil, append_assoc, length-append, take_all, take-append-drop}
use Rattle.std.proofs.lemmas.Option.{none-some, slice_get_within, get_or_from_slice_get}
use Rattle.std.proofs.lemmas.List.{at_drop_more, take_more, drop-drop, length-map, length-take-le, map-append}
use Rattle.rs_face.specs.Rows.{IsRun}
use Rattle.rs_row.specs.declared.open_fault.OpenFault.{OpenFault}
use Rattle.rs_row.specs.declared.open_fault.OpenFault.TheVariants.{BadRow, Unlawful, KeeperFailed, NoMemory}
use Rattle.rs_row.specs.declared.refusal.Refusal.{Refusal}
use Rattle.rs_row.specs.declared.refusal.Refusal.TheVariants.{Bad, Misplaced}
use Rattle.rs_row.specs.RowOpenings.{texts_of, refused_at, refused_or, refused_from, first_refused, TakesRun, OpensKeptRows}

drop_past : {X : Type 0} (xs : List X) (n : ℕ) → length xs ≤ n → drop n xs ≡ []
drop_past [] zero past = refl
drop_past [] (suc n) past = refl
drop_past (x ∷ xs) zero past = absurd (omega arith)
drop_past (x ∷ xs) (suc n) past = drop_past xs n (omega arith)

-- ---- rows behind rows

none_or : (o : Option Refusal) (n : ℕ) (later : Option OpenFault) → refused_or o n later ≡ None → (o ≡ None) × (later ≡ None)
none_or None n later none = (refl, none)
none_or (Some why) n later none = absurd (none-some (refused_at n why) (sym none))

-- where none of these rows is refused, what is refused comes behind them
refused_behind : (refusal : List (List ℕ) → List ℕ → Option Refusal) (rows xs ys : List (List ℕ)) → refused_from refusal rows xs ≡ None
    → refused_from refusal rows (xs ++ ys) ≡ refused_from refusal (rows ++ xs) ys
refused_behind refusal rows [] ys none = ap (λ r. refused_from refusal r ys) (sym (append-nil rows))
refused_behind refusal rows (x ∷ xs) ys none =
    let parts = none_or (refusal rows x) (length rows) (refused_from refusal (rows ++ x ∷ []) xs) none in
    ap (λ o. refused_or o (length rows) (refused_from refusal (rows ++ x ∷ []) (xs ++ ys))) parts.0
    ∙ refused_behind refusal (rows ++ x ∷ []) xs ys parts.1
    ∙ ap (λ r. refused_from refusal r ys) (append_assoc rows (x ∷ []) xs)

or_more : (o : Option Refusal) (n : ℕ) (a b : Option OpenFault) (fault : OpenFault) → (a ≡ Some fault → b ≡ Some fault)
    → refused_or o n a ≡ Some fault → refused_or o n b ≡ Some fault
or_more None n a b fault more is = more is
or_more (Some why) n a b fault more is = is

-- what is refused is refused whatever comes behind it
refused_before : (refusal : List (List ℕ) → List ℕ → Option Refusal) (rows xs ys : List (List ℕ)) (fault : OpenFault)
    → refused_from refusal rows xs ≡ Some fault → refused_from refusal rows (xs ++ ys) ≡ Some fault
refused_before refusal rows [] ys fault is = absurd (none-some fault is)
refused_before refusal rows (x ∷ xs) ys fault is =
    or_more (refusal rows x) (length rows) (refused_from refusal (rows ++ x ∷ []) xs) (refused_from refusal (rows ++ x ∷ []) (xs ++ ys)) fault
    (refused_before refusal (rows ++ x ∷ []) xs ys fault) is

-- ---- the rows of a run

-- of the run so many rows were taken behind the others, and what is refused first is among those that are left
pub record HasTaken {S Z : Type 0} (refusal : List (List ℕ) → List ℕ → Option Refusal) (made_of : S → List (List ℕ) → Type 0)
    (state : S) (rows : List (List ℕ)) (run : List (Vec ℕ Z)) (at : ℕ) : Type 0 where
  pub left : refused_from refusal rows (texts_of run) ≡ refused_from refusal (rows ++ texts_of (take at run)) (texts_of (drop at run))
  pub made : made_of state (rows ++ texts_of (take at run))

pub has_none : {S Z : Type 0} (refusal : List (List ℕ) → List ℕ → Option Refusal) (made_of : S → List (List ℕ) → Type 0) (state : S)
    (rows : List (List ℕ)) (run : List (Vec ℕ Z)) → made_of state rows → HasTaken refusal made_of state rows run 0
has_none refusal made_of state rows run made = record {
  left = ap (λ r. refused_from refusal r (texts_of run)) (sym (append-nil rows));
  made = subst (made_of state) (sym (append-nil rows)) made;
}

texts_more : {Z : Type 0} (run : List (Vec ℕ Z)) (at : ℕ) (row : Vec ℕ Z) → slice_get run at ≡ Some row
    → texts_of (take (at + 1) run) ≡ texts_of (take at run) ++ row.items ∷ []
texts_more run at row found =
    ap (λ part. texts_of part) (take_more run at row (slice_get_within run at row found) ∙ ap (λ last. take at run ++ last ∷ []) (get_or_from_slice_get run at row row found))
    ∙ map-append (λ r. r.items) (take at run) (row ∷ [])

texts_left : {Z : Type 0} (run : List (Vec ℕ Z)) (at : ℕ) (row : Vec ℕ Z) → slice_get run at ≡ Some row
    → texts_of (drop at run) ≡ row.items ∷ texts_of (drop (at + 1) run)
texts_left run at row found =
    at_drop_more (λ part. texts_of part) run at row (slice_get_within run at row found)
    ∙ ap (λ first. first.items ∷ texts_of (drop (at + 1) run)) (get_or_from_slice_get run at row row found)

behind_more : {Z : Type 0} (rows : List (List ℕ)) (run : List (Vec ℕ Z)) (at : ℕ) (row : Vec ℕ Z) → slice_get run at ≡ Some row
    → rows ++ texts_of (take (at + 1) run) ≡ (rows ++ texts_of (take at run)) ++ row.items ∷ []
behind_more rows run at row found =
    ap (λ texts. rows ++ texts) (texts_more run at row found) ∙ sym (append_assoc rows (texts_of (take at run)) (row.items ∷ []))

pub has_more : {S Z : Type 0} (refusal : List (List ℕ) → List ℕ → Option Refusal) (made_of : S → List (List ℕ) → Type 0) (state now : S)
    (rows : List (List ℕ)) (run : List (Vec ℕ Z)) (at : ℕ) (row : Vec ℕ Z) → slice_get run at ≡ Some row
    → refusal (rows ++ texts_of (take at run)) row.items ≡ None → made_of now ((rows ++ texts_of (take at run)) ++ row.items ∷ [])
    → HasTaken refusal made_of state rows run at → HasTaken refusal made_of now rows run (at + 1)
has_more refusal made_of state now rows run at row found none made before =
    let taken = rows ++ texts_of (take at run) in
    let rest = texts_of (drop (at + 1) run) in
    let more = sym (behind_more rows run at row found) in
    record {
      left = before.left ∙ ap (refused_from refusal taken) (texts_left run at row found)
          ∙ ap (λ o. refused_or o (length taken) (refused_from refusal (taken ++ row.items ∷ []) rest)) none
          ∙ ap (λ r. refused_from refusal r rest) more;
      made = subst (made_of now) more made;
    }

pub has_all : {S Z : Type 0} (refusal : List (List ℕ) → List ℕ → Option Refusal) (made_of : S → List (List ℕ) → Type 0) (state : S)
    (rows : List (List ℕ)) (run : List (Vec ℕ Z)) (at : ℕ) → length run ≤ at → HasTaken refusal made_of state rows run at
    → (refused_from refusal rows (texts_of run) ≡ None) × made_of state (rows ++ texts_of run)
has_all refusal made_of state rows run at all before = (
  before.left ∙ ap (λ rest. refused_from refusal (rows ++ texts_of (take at run)) (texts_of rest)) (drop_past run at all),
  subst (λ part. made_of state (rows ++ texts_of part)) (take_all at run all) before.made,
)

takes_refused : {S : Type 0} (refusal : List (List ℕ) → List ℕ → Option Refusal) (made_of : S → List (List ℕ) → Type 0) (state : S)
    (rows texts : List (List ℕ)) (index : ℕ) (why : Refusal) → refused_from refusal rows texts ≡ Some (refused_at index why)
    → TakesRun refusal made_of state (Err (refused_at index why)) rows texts
takes_refused refusal made_of state rows texts index (Bad place) first = first
takes_refused refusal made_of state rows texts index Misplaced first = first

-- a row of the run that is refused is the first
pub has_refused : {S Z : Type 0} (refusal : List (List ℕ) → List ℕ → Option Refusal) (made_of : S → List (List ℕ) → Type 0) (state now : S)
    (rows : List (List ℕ)) (run : List (Vec ℕ Z)) (at place : ℕ) (row : Vec ℕ Z) (why : Refusal) (fault : OpenFault)
    → slice_get run at ≡ Some row → refusal (rows ++ texts_of (take at run)) row.items ≡ Some why → place ≡ length rows + at
    → fault ≡ refused_at place why → HasTaken refusal made_of state rows run at → TakesRun refusal made_of now (Err fault) rows (texts_of run)
has_refused refusal made_of state now rows run at place row why fault found is counted answered before =
    let taken = rows ++ texts_of (take at run) in
    let rest = texts_of (drop (at + 1) run) in
    let within = slice_get_within run at row found in
    let count : length taken ≡ place =
    omega (arith, counted, length-append rows (texts_of (take at run)), length-map (take at run) (λ r. r.items), length-take-le at run (omega (arith, within))) in
    let first : refused_from refusal rows (texts_of run) ≡ Some (refused_at place why) =
    before.left ∙ ap (refused_from refusal taken) (texts_left run at row found)
    ∙ ap (λ o. refused_or o (length taken) (refused_from refusal (taken ++ row.items ∷ []) rest)) is
    ∙ ap (λ n. Some (refused_at n why)) count in
    subst (λ f. TakesRun refusal made_of now (Err f) rows (texts_of run)) (sym answered)
    (takes_refused refusal made_of now rows (texts_of run) place why first)

-- ---- the kept rows

-- of the kept rows these were taken, and what is refused first is among the others
pub record IsSoFar (refusal : List (List ℕ) → List ℕ → Option Refusal) (rows : List (List ℕ)) (index : ℕ) (kept : List (List ℕ)) : Type 0 where
  pub left : first_refused refusal kept ≡ refused_from refusal rows (drop index kept)
  pub front : kept ≡ rows ++ drop index kept

-- the state is made of the rows up to the index
pub record IsTakenSoFar {S : Type 0} (refusal : List (List ℕ) → List ℕ → Option Refusal) (made_of : S → List (List ℕ) → Type 0)
    (state : S) (rows : List (List ℕ)) (told : Option (List (List ℕ))) (index : ℕ) : Type 0 where
  pub made : made_of state rows
  pub count : length rows ≡ index
  pub so_far : IfSome told (IsSoFar refusal rows index)

so_far_start : (refusal : List (List ℕ) → List ℕ → Option Refusal) (told : Option (List (List ℕ))) → IfSome told (IsSoFar refusal [] 0)
so_far_start refusal None = tt
so_far_start refusal (Some kept) = record { left = refl; front = refl }

pub taken_none : {S : Type 0} (refusal : List (List ℕ) → List ℕ → Option Refusal) (made_of : S → List (List ℕ) → Type 0) (state : S)
    (told : Option (List (List ℕ))) → made_of state [] → IsTakenSoFar refusal made_of state [] told 0
taken_none refusal made_of state told made = record { made = made; count = refl; so_far = so_far_start refusal told }

-- what is left begins with the run
left_of : {Z : Type 0} (kept : List (List ℕ)) (index : ℕ) (run : List (Vec ℕ Z)) → IsRun kept index run
    → drop index kept ≡ texts_of run ++ drop (index + length run) kept
left_of kept index run is =
    sym (take-append-drop (length run) (drop index kept))
    ∙ ap (λ texts. texts ++ drop (length run) (drop index kept)) is
    ∙ ap (λ rest. texts_of run ++ rest) (drop-drop (length run) index kept)

so_far_more : {Z : Type 0} (refusal : List (List ℕ) → List ℕ → Option Refusal) (rows : List (List ℕ)) (index : ℕ) (run : List (Vec ℕ Z)) (told : Option (List (List ℕ)))
    → IfSome told (λ kept. IsRun kept index run) → refused_from refusal rows (texts_of run) ≡ None → IfSome told (IsSoFar refusal rows index)
    → IfSome told (IsSoFar refusal (rows ++ texts_of run) (index + length run))
so_far_more refusal rows index run None found none before = tt
so_far_more refusal rows index run (Some kept) found none before =
    let rest = drop (index + length run) kept in
    let begins = left_of kept index run found in
    record {
      left = before.left ∙ ap (refused_from refusal rows) begins ∙ refused_behind refusal rows (texts_of run) rest none;
      front = before.front ∙ ap (λ more. rows ++ more) begins ∙ sym (append_assoc rows (texts_of run) rest);
    }

more_rows : {Z : Type 0} (rows : List (List ℕ)) (run : List (Vec ℕ Z)) (index : ℕ) → length rows ≡ index → length (rows ++ texts_of run) ≡ index + length run
more_rows rows run index count = omega (arith, count, length-append rows (texts_of run), length-map run (λ r. r.items))

-- a run of which no row is refused was taken
pub taken_more : {S Z : Type 0} (refusal : List (List ℕ) → List ℕ → Option Refusal) (made_of : S → List (List ℕ) → Type 0) (state now : S)
    (rows : List (List ℕ)) (told : Option (List (List ℕ))) (index : ℕ) (run : List (Vec ℕ Z)) → IsTakenSoFar refusal made_of state rows told index
    → IfSome told (λ kept. IsRun kept index run) → refused_from refusal rows (texts_of run) ≡ None → made_of now (rows ++ texts_of run)
    → IsTakenSoFar refusal made_of now (rows ++ texts_of run) told (index + length run)
taken_more refusal made_of state now rows told index run before found none made = record {
  made = made;
  count = more_rows rows run index before.count;
  so_far = so_far_more refusal rows index run told found none before.so_far;
}

opens_refused : {S : Type 0} (refusal : List (List ℕ) → List ℕ → Option Refusal) (made_of : S → List (List ℕ) → Type 0) (now : S)
    (rows texts kept : List (List ℕ)) (fault : OpenFault) → TakesRun refusal made_of now (Err fault) rows texts
    → ((f : OpenFault) → refused_from refusal rows texts ≡ Some f → first_refused refusal kept ≡ Some f) → OpensKeptRows refusal made_of (Err fault) kept
opens_refused refusal made_of now rows texts kept (BadRow at place) takes first = first (BadRow at place) takes
opens_refused refusal made_of now rows texts kept (Unlawful at) takes first = first (Unlawful at) takes
opens_refused refusal made_of now rows texts kept KeeperFailed takes first = absurd takes
opens_refused refusal made_of now rows texts kept NoMemory takes first = tt

-- a row that is refused in a run is the first
pub refused_now : {S Z : Type 0} (refusal : List (List ℕ) → List ℕ → Option Refusal) (made_of : S → List (List ℕ) → Type 0) (state now : S)
    (rows : List (List ℕ)) (told : Option (List (List ℕ))) (index : ℕ) (run : List (Vec ℕ Z)) (fault : OpenFault)
    → IsTakenSoFar refusal made_of state rows told index → IfSome told (λ kept. IsRun kept index run)
    → TakesRun refusal made_of now (Err fault) rows (texts_of run) → IfSome told (OpensKeptRows refusal made_of (Err fault))
refused_now refusal made_of state now rows None index run fault before found takes = tt
refused_now refusal made_of state now rows (Some kept) index run fault before found takes =
    let rest = drop (index + length run) kept in
    opens_refused refusal made_of now rows (texts_of run) kept fault takes
    (λ f is. before.so_far.left ∙ ap (refused_from refusal rows) (left_of kept index run found)
    ∙ refused_before refusal rows (texts_of run) rest f is)

-- where no row is left, all were taken
pub taken_all : {S : Type 0} (refusal : List (List ℕ) → List ℕ → Option Refusal) (made_of : S → List (List ℕ) → Type 0) (state : S)
    (rows : List (List ℕ)) (told : Option (List (List ℕ))) (index : ℕ) → IsTakenSoFar refusal made_of state rows told index
    → IfSome told (λ kept. length kept ≤ index) → IfSome told (OpensKeptRows refusal made_of (Ok state))
taken_all refusal made_of state rows None index before ended = tt
taken_all refusal made_of state rows (Some kept) index before ended =
    let nothing = drop_past kept index ended in
    let all : kept ≡ rows = before.so_far.front ∙ ap (λ more. rows ++ more) nothing ∙ append-nil rows in
    (before.so_far.left ∙ ap (refused_from refusal rows) nothing, subst (made_of state) (sym all) before.made)
