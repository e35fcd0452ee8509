-- A field that is read is as it is written.
use Rattle.std.proofs.Common.{◌≡◌, ℕ, ◌+◌, ◌<◌, ◌≤◌, false, nat_lt, nat_le, List, [], ◌∷◌, ◌++◌, length, take, drop, get_or, Option, Some, None, Result, Ok, Err, arith, refl, sym, ap, ◌∙◌, subst, zero, suc, ⊎_elim, length-take, take-append-drop}
use Rattle.std.specs.Int.{w16, w32, w64, to_be_bytes, from_be_bytes}
use Rattle.std.specs.Str.{bytes_eq}
use Rattle.std.proofs.lemmas.Bool.{cases_Bool, cond-true, cond-false}
use Rattle.std.proofs.lemmas.Bool.Decides.{nat_tests}
use Rattle.std.proofs.lemmas.Nat.{be_bytes_2, be_bytes_4, be_bytes_8}
use Rattle.std.proofs.lemmas.Slice.Eq.{bytes_eq-Decides}
use Rattle.rs_path.specs.declared.path_fault.PathFault.{PathFault}
use Rattle.rs_path.specs.Kinds.{is_kind}
use Rattle.rs_path.specs.Paths.{Path, plain_text}
use Rattle.rs_path.specs.Readings.{plain_reading}
use Rattle.rs_path.proofs.Cited.{plain_text-plain_reading}
use Rattle.rs_scope.specs.declared.scope.Scope.{Scope}
use Rattle.rs_scope.specs.declared.scope_fault.ScopeFault.{ScopeFault}
use Rattle.rs_scope.specs.Scopes.{scopes_text}
use Rattle.rs_scope.specs.ScopeReadings.{scopes_reading}
use Rattle.rs_row.specs.declared.row_fault.RowFault.{RowFault}
use Rattle.rs_row.specs.declared.row_fault.RowFault.TheVariants.{Bad}
use Rattle.rs_row.specs.RowTexts.{behind_1, behind_2, behind_4}
use Rattle.rs_row.specs.RowFields.{Parted, RowField, ◌>>>◌, part_at, part_1, part_2, text_in, fixed_in, as_meant, meant_1_in, meant_2_in, number_of_bytes, u16_in, u32_in, u64_in, byte_meant, body_of_size, body_in, whole, path_of_reading, path_meant, unless_folder, document_meant, kind_meant, scopes_if_written, scopes_meant}
use Rattle.rs_row.proofs.FieldLemmas.{Halves, At}

-- ---- bytes

-- each is a byte
abbrev pub AreBytes : List ℕ → Type 0
AreBytes row = (i : ℕ) → get_or row i 0 < 256

AreBytes-drop : (n : ℕ) (row : List ℕ) → AreBytes row → AreBytes (drop n row)
AreBytes-drop zero row small = small
AreBytes-drop (suc n) [] small = small
AreBytes-drop (suc n) (byte ∷ row) small = AreBytes-drop n row (λ i. small (suc i))

AreBytes-take : (n : ℕ) (row : List ℕ) → AreBytes row → AreBytes (take n row)
AreBytes-take zero row small i = omega arith
AreBytes-take (suc n) [] small i = omega arith
AreBytes-take (suc n) (byte ∷ row) small zero = small 0
AreBytes-take (suc n) (byte ∷ row) small (suc i) = AreBytes-take n row (λ i. small (suc i)) i

AreBytes-pair : (a b : ℕ) → a < 256 → b < 256 → AreBytes (a ∷ b ∷ [])
AreBytes-pair a b small_a small_b zero = small_a
AreBytes-pair a b small_a small_b (suc zero) = small_b
AreBytes-pair a b small_a small_b (suc (suc i)) = omega arith

-- ---- the `?`

-- what a value behind `>>>` shows
pub record Went {A B : Type 0} (r : Result A RowFault) (next : A → Result B RowFault) (y : B) : Type 0 where
  pub by : A
  pub first : r ≡ Ok by
  pub after : next by ≡ Ok y

pub went : {A B : Type 0} (r : Result A RowFault) (next : A → Result B RowFault) (y : B) → (r >>> next) ≡ Ok y → Went r next y
went (Ok x) next y done = record { by = x; first = refl; after = done }
went (Err fault) next y done = absurd (cc)

-- ---- parts

pub record IsPart (n : ℕ) (row front rest : List ℕ) : Type 0 where
  pub whole : row ≡ front ++ rest
  pub count : length front ≡ n
  pub fits : AreBytes front
  pub small : AreBytes rest

part_at-some : (n : ℕ) (row front rest : List ℕ) → AreBytes row → part_at n row ≡ Some (Halves front rest) → IsPart n row front rest
part_at-some n row front rest small found =
    ⊎_elim
    (λ enough.
    let within : n ≤ length row = grind (arith, nat_tests, enough) in
    let is : Some (Halves (take n row) (drop n row)) ≡ Some (Halves front rest) = sym (cond-true _ _ _ enough) ∙ found in
    let same : Halves (take n row) (drop n row) ≡ Halves front rest = cc in
    let first : take n row ≡ front = ap (λ (c : Parted). c.front) same in
    let later : drop n row ≡ rest = ap (λ (c : Parted). c.rest) same in
    record {
      whole = sym (take-append-drop n row) ∙ ap (λ f. f ++ drop n row) first ∙ ap (λ r. front ++ r) later;
      count = ap length (sym first) ∙ omega (arith, length-take n row, within);
      fits = subst AreBytes first (AreBytes-take n row small);
      small = subst AreBytes later (AreBytes-drop n row small);
    })
    (λ short. let none : None ≡ Some (Halves front rest) = sym (cond-false _ _ _ short) ∙ found in absurd (cc))
    (cases_Bool (nat_le n (length row)))

-- the row begins so
pub record Begins (front row rest : List ℕ) : Type 0 where
  pub whole : row ≡ front ++ rest
  pub small : AreBytes rest

part_2-some : (row front rest : List ℕ) → AreBytes row → part_2 row ≡ Some (Halves front rest) → Begins (behind_2 front) row rest
part_2-some [] front rest small found = absurd (cc)
part_2-some (a ∷ []) front rest small found = absurd (cc)
part_2-some (a ∷ b ∷ row) front rest small found =
    let is = part_at-some (from_be_bytes w16 (a ∷ b ∷ [])) row front rest (λ i. small (suc (suc i))) found in
    let size : to_be_bytes w16 (length front) ≡ a ∷ b ∷ [] = be_bytes_2 (a ∷ b ∷ []) (length front) refl (AreBytes-pair a b (small 0) (small 1)) is.count in
    record {
      whole = ap (λ t. a ∷ b ∷ t) is.whole ∙ ap (λ bs. (bs ++ front) ++ rest) (sym size);
      small = is.small;
    }

part_1-some : (row front rest : List ℕ) → AreBytes row → part_1 row ≡ Some (Halves front rest) → Begins (behind_1 front) row rest
part_1-some [] front rest small found = absurd (cc)
part_1-some (n ∷ row) front rest small found =
    let is = part_at-some n row front rest (λ i. small (suc i)) found in
    record {
      whole = ap (λ t. n ∷ t) is.whole ∙ ap (λ k. k ∷ (front ++ rest)) (sym is.count);
      small = is.small;
    }

-- ---- texts that stand for something

-- the text of a field, and what it stands for
record Stands {X : Type 0} (part : Option Parted) (meant : List ℕ → Option X) (f : RowField X) : Type 0 where
  text : List ℕ
  found : part ≡ Some (Halves text f.rest)
  stands : meant text ≡ Some f.value

as_meant-ok : {X : Type 0} (o : Option X) (place : ℕ) (text : RowField (List ℕ)) (f : RowField X) → as_meant o place text ≡ Ok f → (o ≡ Some f.value) × (text.rest ≡ f.rest)
as_meant-ok None place text f done = absurd (cc)
as_meant-ok (Some x) place text f done =
    let same : At x text.place text.rest ≡ f = cc in
    (ap (λ (g : RowField _). Some g.value) same, ap (λ (g : RowField _). g.rest) same)

text_in-ok : (part : Option Parted) (place end : ℕ) (f : RowField (List ℕ)) → text_in part place end ≡ Ok f → part ≡ Some (Halves f.value f.rest)
text_in-ok None place end f done = absurd (cc)
text_in-ok (Some c) place end f done =
    let same : At c.front (place + length c.front) c.rest ≡ f = cc in
    ap (λ (g : RowField (List ℕ)). Some (Halves g.value g.rest)) same

stands_for : {X : Type 0} (part : Option Parted) (meant : List ℕ → Option X) (place end : ℕ) (f : RowField X)
    → (text_in part place end >>> (λ (text : RowField (List ℕ)). as_meant (meant text.value) place text)) ≡ Ok f → Stands part meant f
stands_for part meant place end f done =
    let step = went (text_in part place end) (λ (text : RowField (List ℕ)). as_meant (meant text.value) place text) f done in
    let text = step.by in
    let verdict = as_meant-ok (meant text.value) place text f step.after in
    record {
      text = text.value;
      found = text_in-ok part place end text step.first ∙ ap (λ r. Some (Halves text.value r)) verdict.1;
      stands = verdict.0;
    }

-- the text that a field of a meaning was read from
pub record Meant {X : Type 0} (behind : List ℕ → List ℕ) (meant : List ℕ → Option X) (row : List ℕ) (f : RowField X) : Type 0 where
  pub text : List ℕ
  pub begins : Begins (behind text) row f.rest
  pub stands : meant text ≡ Some f.value

pub meant_2_in-ok : {X : Type 0} (meant : List ℕ → Option X) (place : ℕ) (row : List ℕ) (f : RowField X) → AreBytes row → meant_2_in meant place row ≡ Ok f
    → Meant behind_2 meant row f
meant_2_in-ok meant place row f small done =
    let is = stands_for (part_2 row) meant (place + 2) (place + length row) f done in
    record { text = is.text; begins = part_2-some row is.text f.rest small is.found; stands = is.stands }

pub meant_1_in-ok : {X : Type 0} (meant : List ℕ → Option X) (place : ℕ) (row : List ℕ) (f : RowField X) → AreBytes row → meant_1_in meant place row ≡ Ok f
    → Meant behind_1 meant row f
meant_1_in-ok meant place row f small done =
    let is = stands_for (part_1 row) meant (place + 1) (place + length row) f done in
    record { text = is.text; begins = part_1-some row is.text f.rest small is.found; stands = is.stands }

path_read : (text : List ℕ) (r : Result Path PathFault) (path : Path) → plain_reading text ≡ r → path_of_reading r ≡ Some path → plain_text path ≡ text
path_read text (Ok q) path read found =
    let same : q ≡ path = cc in
    ap plain_text (sym same) ∙ plain_text-plain_reading text q read
path_read text (Err fault) path read found = absurd (cc)

pub path_is : (text : List ℕ) (path : Path) → path_meant text ≡ Some path → plain_text path ≡ text
path_is text path found = path_read text (plain_reading text) path refl found

unless_folder-some : (o : Option Path) (path : Path) → unless_folder o ≡ Some path → (o ≡ Some path) × (path.folder ≡ false)
unless_folder-some None path found = absurd (cc)
unless_folder-some (Some q) path found =
    ⊎_elim
    (λ folder. let none : None ≡ Some path = sym (cond-true _ _ _ folder) ∙ found in absurd (cc))
    (λ document.
    let is : Some q ≡ Some path = sym (cond-false _ _ _ document) ∙ found in
    let same : q ≡ path = cc in
    (is, ap (λ (p : Path). p.folder) (sym same) ∙ document))
    (cases_Bool q.folder)

pub document_is : (text : List ℕ) (path : Path) → document_meant text ≡ Some path → (plain_text path ≡ text) × (path.folder ≡ false)
document_is text path found =
    let parts = unless_folder-some (path_meant text) path found in
    (path_is text path parts.0, parts.1)

pub kind_is : (text kind : List ℕ) → kind_meant text ≡ Some kind → kind ≡ text
kind_is text kind found =
    ⊎_elim
    (λ named. let is : Some text ≡ Some kind = sym (cond-true _ _ _ named) ∙ found in cc)
    (λ other. let none : None ≡ Some kind = sym (cond-false _ _ _ other) ∙ found in absurd (cc))
    (cases_Bool (is_kind text))

scopes_are : (text : List ℕ) (r : Result (List Scope) ScopeFault) (scopes : List Scope) → scopes_if_written text r ≡ Some scopes → scopes_text scopes ≡ text
scopes_are text (Ok read) scopes found =
    ⊎_elim
    (λ written.
    let is : Some read ≡ Some scopes = sym (cond-true _ _ _ written) ∙ found in
    let same : read ≡ scopes = cc in
    ap scopes_text (sym same) ∙ (bytes_eq-Decides (scopes_text read) text).0 written)
    (λ other. let none : None ≡ Some scopes = sym (cond-false _ _ _ other) ∙ found in absurd (cc))
    (cases_Bool (bytes_eq (scopes_text read) text))
scopes_are text (Err fault) scopes found = absurd (cc)

pub scopes_is : (text : List ℕ) (scopes : List Scope) → scopes_meant text ≡ Some scopes → scopes_text scopes ≡ text
scopes_is text scopes found = scopes_are text (scopes_reading text) scopes found

-- ---- bytes, numbers and bodies

pub fixed_in-ok : (n place : ℕ) (row : List ℕ) (f : RowField (List ℕ)) → AreBytes row → fixed_in n place row ≡ Ok f → IsPart n row f.value f.rest
fixed_in-ok n place row f small done = part_at-some n row f.value f.rest small (text_in-ok (part_at n row) place (place + length row) f done)

-- the bytes that a number was read from
record IsNumber (n : ℕ) (number : List ℕ → ℕ) (row : List ℕ) (f : RowField ℕ) : Type 0 where
  text : List ℕ
  part : IsPart n row text f.rest
  value : f.value ≡ number text

number_in-ok : (n place : ℕ) (number : List ℕ → ℕ) (row : List ℕ) (f : RowField ℕ) → AreBytes row
    → (fixed_in n place row >>> number_of_bytes number) ≡ Ok f → IsNumber n number row f
number_in-ok n place number row f small done =
    let step = went (fixed_in n place row) (number_of_bytes number) f done in
    let text = step.by in
    let first = fixed_in-ok n place row text small step.first in
    let made = step.after in
    let same : At (number text.value) text.place text.rest ≡ f = cc in
    record {
      text = text.value;
      part = subst (λ r. IsPart n row text.value r) (ap (λ (g : RowField ℕ). g.rest) same) first;
      value = ap (λ (g : RowField ℕ). g.value) (sym same);
    }

pub u16_in-ok : (place : ℕ) (row : List ℕ) (f : RowField ℕ) → AreBytes row → u16_in place row ≡ Ok f → Begins (to_be_bytes w16 f.value) row f.rest
u16_in-ok place row f small done =
    let is = number_in-ok 2 place (from_be_bytes w16) row f small done in
    let written = be_bytes_2 is.text f.value is.part.count is.part.fits is.value in
    record { whole = is.part.whole ∙ ap (λ bs. bs ++ f.rest) (sym written); small = is.part.small }

pub u32_in-ok : (place : ℕ) (row : List ℕ) (f : RowField ℕ) → AreBytes row → u32_in place row ≡ Ok f → Begins (to_be_bytes w32 f.value) row f.rest
u32_in-ok place row f small done =
    let is = number_in-ok 4 place (from_be_bytes w32) row f small done in
    let written = be_bytes_4 is.text f.value is.part.count is.part.fits is.value in
    record { whole = is.part.whole ∙ ap (λ bs. bs ++ f.rest) (sym written); small = is.part.small }

pub u64_in-ok : (place : ℕ) (row : List ℕ) (f : RowField ℕ) → AreBytes row → u64_in place row ≡ Ok f → Begins (to_be_bytes w64 f.value) row f.rest
u64_in-ok place row f small done =
    let is = number_in-ok 8 place (from_be_bytes w64) row f small done in
    let written = be_bytes_8 is.text f.value is.part.count is.part.fits is.value in
    record { whole = is.part.whole ∙ ap (λ bs. bs ++ f.rest) (sym written); small = is.part.small }

body_of_size-ok : (limit place size : ℕ) (row : List ℕ) (f : RowField (List ℕ)) → body_of_size limit place size row ≡ Ok f
    → (size ≤ limit) × (fixed_in size (place + 4) row ≡ Ok f)
body_of_size-ok limit place size row f done =
    ⊎_elim
    (λ long. let wrong : Err (Bad place) ≡ Ok f = sym (cond-true _ _ _ long) ∙ done in absurd (cc))
    (λ fits. (grind (arith, nat_tests, fits), sym (cond-false _ _ _ fits) ∙ done))
    (cases_Bool (nat_lt limit size))

pub body_in-ok : (limit place : ℕ) (row : List ℕ) (f : RowField (List ℕ)) → AreBytes row → body_in limit place row ≡ Ok f
    → Begins (behind_4 f.value) row f.rest × (length f.value ≤ limit)
body_in-ok limit place row f small done =
    let step = went (u32_in place row) (λ (size : RowField ℕ). body_of_size limit place size.value size.rest) f done in
    let size = step.by in
    let first = u32_in-ok place row size small step.first in
    let sized = body_of_size-ok limit place size.value size.rest f step.after in
    let body = fixed_in-ok size.value (place + 4) size.rest f first.small sized.1 in
    let count = body.count in
    let within = sized.0 in (
      record {
        whole = first.whole ∙ ap (λ n. to_be_bytes w32 n ++ size.rest) (sym count) ∙ ap (λ r. to_be_bytes w32 (length f.value) ++ r) body.whole;
        small = body.small;
      },
      omega (arith, count, within),
    )

-- one byte
pub record IsByte {X : Type 0} (meant : ℕ → Option X) (row : List ℕ) (f : RowField X) : Type 0 where
  pub byte : ℕ
  pub begins : row ≡ byte ∷ f.rest
  pub stands : meant byte ≡ Some f.value

pub byte_meant-ok : {X : Type 0} (meant : ℕ → Option X) (place : ℕ) (row : List ℕ) (f : RowField X) → byte_meant meant place row ≡ Ok f → IsByte meant row f
byte_meant-ok meant place [] f done = absurd (cc)
byte_meant-ok meant place (byte ∷ row) f done =
    let is = as_meant-ok (meant byte) place (At [] (place + 1) row) f done in
    record { byte = byte; begins = ap (λ r. byte ∷ r) is.1; stands = is.0 }

pub whole-ok : {X : Type 0} (place : ℕ) (row : List ℕ) (x y : X) → whole place row x ≡ Ok y → (x ≡ y) × (row ≡ [])
whole-ok place [] x y done = (cc, refl)
whole-ok place (byte ∷ row) x y done = absurd (cc)
