-- What is told over several calls, one after another. With the lemmas of std on known bytes, which
-- are passed on, these serve a loop that reads piece after piece and writes reply after reply.
use Rattle.std.proofs.Common.{◌≡◌, ℕ, ◌+◌, List, ◌++◌, Option, None, Some, length, take, refl, sym, ap, ◌∙◌, subst, append-nil, append_assoc, [], ◌∷◌, IfSome}
use Rattle.std.proofs.lemmas.List.{take_more}
use Rattle.std.proofs.lemmas.Option.{slice_get_within, get_or_from_slice_get}
use Rattle.std.specs.List.{slice_get}
use Rattle.std.proofs.Math.Seq.{take-append-add, take-append_seam}
use Rattle.std.specs.Io.KnownBytes.{Keeps, Appends, Consumes, prepend_known}
use Rattle.rs_face.specs.Rows.{with_rows}
use Rattle.rs_face.specs.Told.{StaysTold, AppendsFront}
pub use Rattle.std.proofs.KnownBytes.{Keeps-refl, Keeps-trans, Consumes-nil, Consumes-trans, Consumes-kept, Consumes-whole, Appends-nil, Appends-trans, Appends-kept}

pub StaysTold-refl : {A : Type 0} (a : Option A) → StaysTold a a
StaysTold-refl a = refl

pub StaysTold-trans : {A : Type 0} (a b c : Option A) → StaysTold a b → StaysTold b c → StaysTold a c
StaysTold-trans a b c first second = second ∙ first

-- where bytes are told, what was consumed stood in front of what is left
pub Consumes-told : (xs : List ℕ) (b : Option (List ℕ)) (bs : List ℕ) → Consumes (Some xs) b bs → (ys : List ℕ) × (b ≡ Some ys) × (xs ≡ bs ++ ys)
Consumes-told xs None bs p = absurd p
Consumes-told xs (Some ys) bs p = (ys, refl, p)

-- where bytes are told, what was appended stands behind them
pub Appends-told : (xs : List ℕ) (b : Option (List ℕ)) (bs : List ℕ) → Appends (Some xs) b bs → b ≡ Some (xs ++ bs)
Appends-told xs None bs p = absurd p
Appends-told xs (Some ys) bs p = ap Some p

-- nothing is a front of any bytes
pub AppendsFront-kept : (a b : Option (List ℕ)) (bs : List ℕ) → Keeps a b → AppendsFront a b bs
AppendsFront-kept None b bs p = (0, tt)
AppendsFront-kept (Some x) None bs p = absurd p
AppendsFront-kept (Some x) (Some y) bs p = (0, p ∙ sym (append-nil x))

-- all of the bytes, and more of them to come
pub AppendsFront-whole : (a b : Option (List ℕ)) (bs more : List ℕ) → Appends a b bs → AppendsFront a b (bs ++ more)
AppendsFront-whole a b bs more p = (length bs, subst (Appends a b) (sym (take-append_seam bs more)) p)

-- some bytes, and then a front of more
pub AppendsFront-after : (a b c : Option (List ℕ)) (bs more : List ℕ) → Appends a b bs → AppendsFront b c more → AppendsFront a c (bs ++ more)
AppendsFront-after a b c bs more p (count, q) =
    (length bs + count, subst (Appends a c) (sym (take-append-add bs more count)) (Appends-trans a b c bs (take count more) p q))

-- words that were drawn one after another
pub prepend_known-append : (xs ys : List ℕ) (told : Option (List ℕ)) → prepend_known xs (prepend_known ys told) ≡ prepend_known (xs ++ ys) told
prepend_known-append xs ys None = refl
prepend_known-append xs ys (Some words) = ap Some (sym (append_assoc xs ys words))

pub with_rows-nil : (told : Option (List (List ℕ))) → with_rows told [] ≡ told
with_rows-nil None = refl
with_rows-nil (Some rows) = ap Some (append-nil rows)

-- rows that were added one after another
pub with_rows-append : (told : Option (List (List ℕ))) (xs ys : List (List ℕ)) → with_rows (with_rows told xs) ys ≡ with_rows told (xs ++ ys)
with_rows-append None xs ys = refl
with_rows-append (Some rows) xs ys = ap Some (append_assoc rows xs ys)

-- the rows read so far, and the row that was read next
pub take-next_row : (rows : List (List ℕ)) (i : ℕ) (row : List ℕ) → slice_get rows i ≡ Some row → take (i + 1) rows ≡ take i rows ++ row ∷ []
take-next_row rows i row is =
    take_more rows i row (slice_get_within rows i row is) ∙ ap (λ next. take i rows ++ next ∷ []) (get_or_from_slice_get rows i row row is)

-- two facts of what is told give a third
pub IfSome-both : {A : Type 0} (told : Option A) {P Q R : A → Type 0} → IfSome told P → IfSome told Q → ((x : A) → P x → Q x → R x) → IfSome told R
IfSome-both None p q both = tt
IfSome-both (Some x) p q both = both x p q
