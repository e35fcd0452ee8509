-- A field that is written is read, whatever is behind it.
use Rattle.std.proofs.Common.{◌≡◌, ℕ, ◌+◌, ◌<◌, ◌≤◌, ◌^◌, true, false, nat_lt, nat_le, List, [], ◌∷◌, ◌++◌, length, drop, Option, Some, Result, Ok, arith, refl, sym, ap, ◌∙◌, length-append}
use Rattle.std.specs.Int.{w16, w32, w64, to_be_bytes, from_be_bytes}
use Rattle.std.proofs.Math.Seq.{take-append_seam, drop-append_seam}
use Rattle.std.proofs.lemmas.Bool.{cond-true, cond-false}
use Rattle.std.proofs.lemmas.Bool.Decides.{nat_tests}
use Rattle.std.proofs.lemmas.Nat.{from_be_bytes-to_be_bytes_2, from_be_bytes-to_be_bytes_4, from_be_bytes-to_be_bytes_8}
use Rattle.std.proofs.lemmas.Slice.Eq.{bytes_eq-Decides}
use Rattle.rs_path.specs.Kinds.{is_kind}
use Rattle.rs_path.specs.Paths.{Path, is_path, plain_text}
use Rattle.rs_path.specs.Tags.{is_tag}
use Rattle.rs_path.proofs.Cited.{plain_reading-plain_text}
use Rattle.rs_scope.specs.declared.scope.Scope.{Scope}
use Rattle.rs_scope.specs.Scopes.{scopes_text, is_scopes}
use Rattle.rs_scope.proofs.Cited.{scopes_reading-text}
use Rattle.rs_row.specs.declared.row_fault.RowFault.{RowFault}
use Rattle.rs_row.specs.RowTexts.{behind_1, behind_2, behind_4}
use Rattle.rs_row.specs.RowFields.{Parted, RowField, ◌>>>◌, part_at, part_1, part_2, text_in, fixed_in, as_meant, meant_1_in, meant_2_in, number_of_bytes, u16_in, u32_in, u64_in, body_of_size, body_in, path_of_reading, path_meant, unless_folder, document_meant, kind_meant, tag_meant, optional_tag_meant, scopes_if_written, scopes_meant}

abbrev pub Halves : List ℕ → List ℕ → Parted
Halves front rest = record { front = front; rest = rest }

abbrev pub At : {X : Type 0} → X → ℕ → List ℕ → RowField X
At value place rest = record { value = value; place = place; rest = rest }

-- ---- parts

part_whole : (front more : List ℕ) → part_at (length front) (front ++ more) ≡ Some (Halves front more)
part_whole front more =
    let within : length front ≤ length (front ++ more) = omega (arith, length-append front more) in
    let enough : nat_le (length front) (length (front ++ more)) ≡ true = grind (arith, nat_tests, within) in
    cond-true _ _ _ enough
    ∙ ap (λ f. Some (Halves f (drop (length front) (front ++ more)))) (take-append_seam front more)
    ∙ ap (λ r. Some (Halves front r)) (drop-append_seam front more)

part_2-text : (text more : List ℕ) → length text < 2 ^ 16 → part_2 (behind_2 text ++ more) ≡ Some (Halves text more)
part_2-text text more small =
    ap (λ n. part_at n (text ++ more)) (from_be_bytes-to_be_bytes_2 (length text) small) ∙ part_whole text more

part_1-text : (text more : List ℕ) → part_1 (behind_1 text ++ more) ≡ Some (Halves text more)
part_1-text text more = part_whole text more

pub fixed_in-front : (n place : ℕ) (front more : List ℕ) → length front ≡ n → fixed_in n place (front ++ more) ≡ Ok (At front (place + n) more)
fixed_in-front n place front more count =
    ap (λ k. text_in (part_at k (front ++ more)) place (place + length (front ++ more))) (sym count)
    ∙ ap (λ part. text_in part place (place + length (front ++ more))) (part_whole front more)
    ∙ ap (λ k. Ok (At front (place + k) more)) count

-- ---- texts that stand for something

pub meant_1_in-text : {X : Type 0} (meant : List ℕ → Option X) (place : ℕ) (text more : List ℕ) (x : X) → meant text ≡ Some x
    → meant_1_in meant place (behind_1 text ++ more) ≡ Ok (At x (place + 1 + length text) more)
meant_1_in-text meant place text more x stands =
    let row = behind_1 text ++ more in
    ap (λ part. text_in part (place + 1) (place + length row) >>> (λ (field : RowField (List ℕ)). as_meant (meant field.value) (place + 1) field)) (part_1-text text more)
    ∙ ap (λ o. as_meant o (place + 1) (At text (place + 1 + length text) more)) stands

pub meant_2_in-text : {X : Type 0} (meant : List ℕ → Option X) (place : ℕ) (text more : List ℕ) (x : X) → length text < 2 ^ 16 → meant text ≡ Some x
    → meant_2_in meant place (behind_2 text ++ more) ≡ Ok (At x (place + 2 + length text) more)
meant_2_in-text meant place text more x small stands =
    let row = behind_2 text ++ more in
    ap (λ part. text_in part (place + 2) (place + length row) >>> (λ (field : RowField (List ℕ)). as_meant (meant field.value) (place + 2) field)) (part_2-text text more small)
    ∙ ap (λ o. as_meant o (place + 2) (At text (place + 2 + length text) more)) stands

pub path_meant-text : (path : Path) → is_path path ≡ true → path_meant (plain_text path) ≡ Some path
path_meant-text path is = ap path_of_reading (plain_reading-plain_text path is)

pub document_meant-text : (path : Path) → is_path path ≡ true → path.folder ≡ false → document_meant (plain_text path) ≡ Some path
document_meant-text path is document = ap unless_folder (path_meant-text path is) ∙ cond-false _ _ _ document

pub kind_meant-text : (kind : List ℕ) → is_kind kind ≡ true → kind_meant kind ≡ Some kind
kind_meant-text kind is = cond-true _ _ _ is

pub tag_meant-text : (tag : List ℕ) → is_tag tag ≡ true → tag_meant tag ≡ Some tag
tag_meant-text tag is = cond-true _ _ _ is

pub optional_tag_meant-some : (tag : List ℕ) → is_tag tag ≡ true → optional_tag_meant tag ≡ Some (Some tag)
optional_tag_meant-some [] is = cond-true _ _ _ is
optional_tag_meant-some (byte ∷ bytes) is = cond-true _ _ _ is

pub scopes_meant-text : (scopes : List Scope) → is_scopes scopes ≡ true → scopes_meant (scopes_text scopes) ≡ Some scopes
scopes_meant-text scopes is =
    ap (scopes_if_written (scopes_text scopes)) (scopes_reading-text scopes is)
    ∙ cond-true _ _ _ ((bytes_eq-Decides (scopes_text scopes) (scopes_text scopes)).1 refl)

-- ---- numbers and bodies

pub u16_in-number : (place n : ℕ) (more : List ℕ) → n < 2 ^ 16 → u16_in place (to_be_bytes w16 n ++ more) ≡ Ok (At n (place + 2) more)
u16_in-number place n more small =
    ap (λ (r : Result (RowField (List ℕ)) RowFault). r >>> number_of_bytes (from_be_bytes w16)) (fixed_in-front 2 place (to_be_bytes w16 n) more refl)
    ∙ ap (λ k. Ok (At k (place + 2) more)) (from_be_bytes-to_be_bytes_2 n small)

pub u32_in-number : (place n : ℕ) (more : List ℕ) → n < 2 ^ 32 → u32_in place (to_be_bytes w32 n ++ more) ≡ Ok (At n (place + 4) more)
u32_in-number place n more small =
    ap (λ (r : Result (RowField (List ℕ)) RowFault). r >>> number_of_bytes (from_be_bytes w32)) (fixed_in-front 4 place (to_be_bytes w32 n) more refl)
    ∙ ap (λ k. Ok (At k (place + 4) more)) (from_be_bytes-to_be_bytes_4 n small)

pub u64_in-number : (place n : ℕ) (more : List ℕ) → n < 2 ^ 64 → u64_in place (to_be_bytes w64 n ++ more) ≡ Ok (At n (place + 8) more)
u64_in-number place n more small =
    ap (λ (r : Result (RowField (List ℕ)) RowFault). r >>> number_of_bytes (from_be_bytes w64)) (fixed_in-front 8 place (to_be_bytes w64 n) more refl)
    ∙ ap (λ k. Ok (At k (place + 8) more)) (from_be_bytes-to_be_bytes_8 n small)

pub body_in-text : (limit place : ℕ) (body more : List ℕ) → length body ≤ limit → limit < 2 ^ 32
    → body_in limit place (behind_4 body ++ more) ≡ Ok (At body (place + 4 + length body) more)
body_in-text limit place body more within few =
    let small : length body < 2 ^ 32 = omega arith in
    let allowed : nat_lt limit (length body) ≡ false = grind (arith, nat_tests, within) in
    ap (λ (r : Result (RowField ℕ) RowFault). r >>> (λ (size : RowField ℕ). body_of_size limit place size.value size.rest)) (u32_in-number place (length body) (body ++ more) small)
    ∙ cond-false _ _ _ allowed
    ∙ fixed_in-front (length body) (place + 4) body more refl
