-- A row that is read is the row that its record is written as.
use Rattle.std.proofs.Common.{◌≡◌, ℕ, ◌≤◌, true, not, ◌==◌, nat_le, if◌then◌else◌, List, [], ◌∷◌, ◌++◌, length, Option, Some, None, Result, Ok, Err, arith, refl, sym, ap, ◌∙◌, subst, suc, ⊎_elim}
use Rattle.std.specs.Str.{bytes_eq}
use Rattle.std.proofs.lemmas.Bool.{cases_Bool, and_from, cond-true, cond-false}
use Rattle.std.proofs.lemmas.Bool.Decides.{nat_tests}
use Rattle.std.proofs.lemmas.List.{append-nil}
use Rattle.std.proofs.lemmas.Slice.Eq.{bytes_eq-Decides}
use Rattle.sha2.specs.Sha256.{sha256}
use Rattle.rs_path.specs.Paths.{Path, plain_text}
use Rattle.rs_scope.specs.declared.scope.Scope.{Scope}
use Rattle.rs_scope.specs.Scopes.{scopes_text}
use Rattle.rs_row.specs.declared.row_fault.RowFault.{RowFault}
use Rattle.rs_row.specs.declared.row_fault.RowFault.TheVariants.{Bad}
use Rattle.rs_row.specs.RowTexts.{behind_1, behind_2, behind_4}
use Rattle.rs_row.specs.RowFields.{RowField, ◌>>>◌, document_meant, kind_meant, scopes_meant, fixed_in, meant_1_in, meant_2_in, body_in, whole}
use Rattle.rs_row.proofs.Cited.{AreBytes, Begins, went, meant_1_in-ok, meant_2_in-ok, document_is, kind_is, scopes_is, fixed_in-ok, body_in-ok, whole-ok}
use Rattle.rs_record.specs.declared.records.Record.{Record}
use Rattle.rs_record.specs.declared.records.Record.TheVariants.{Remove, Grant, Revoke}
use Rattle.rs_record.specs.Records.{body_limit, is_document, is_writable}
use Rattle.rs_record.specs.Rows.{document_fields, spelling}
use Rattle.rs_record.specs.RowReadings.{Document, document_reading_at, put_of, digested, put_reading, remove_reading, grant_reading, revoke_reading, written_put_reading, written_remove_reading, first_format, second_format, record_reading}

-- ---- fields

document_field-ok : (place : ℕ) (row : List ℕ) (f : RowField Path) → AreBytes row → meant_2_in document_meant place row ≡ Ok f
    → Begins (behind_2 (plain_text f.value)) row f.rest × (is_document f.value ≡ true)
document_field-ok place row f small done =
    let is = meant_2_in-ok document_meant place row f small done in
    let path = document_is is.text f.value is.stands in
    (subst (λ (t : List ℕ). Begins (behind_2 t) row f.rest) (sym path.0) is.begins, ap not path.1)

kind_field-ok : (place : ℕ) (row : List ℕ) (f : RowField (List ℕ)) → AreBytes row → meant_1_in kind_meant place row ≡ Ok f → Begins (behind_1 f.value) row f.rest
kind_field-ok place row f small done =
    let is = meant_1_in-ok kind_meant place row f small done in
    subst (λ (t : List ℕ). Begins (behind_1 t) row f.rest) (sym (kind_is is.text f.value is.stands)) is.begins

scopes_field-ok : (place : ℕ) (row : List ℕ) (f : RowField (List Scope)) → AreBytes row → meant_2_in scopes_meant place row ≡ Ok f
    → Begins (behind_2 (scopes_text f.value)) row f.rest
scopes_field-ok place row f small done =
    let is = meant_2_in-ok scopes_meant place row f small done in
    subst (λ (t : List ℕ). Begins (behind_2 t) row f.rest) (sym (scopes_is is.text f.value is.stands)) is.begins

-- ---- documents

record IsDocument (limit : ℕ) (row : List ℕ) (d : Document) : Type 0 where
  whole : row ≡ document_fields d.path d.kind d.body
  document : is_document d.path ≡ true
  within : length d.body ≤ limit

document_ok : (limit place : ℕ) (row : List ℕ) (d : Document) → AreBytes row → document_reading_at limit place row ≡ Ok d → IsDocument limit row d
document_ok limit place row d small done =
    let Doc : Path → List ℕ → List ℕ → Document = λ p k b. record { path = p; kind = k; body = b } in
    let one = went (meant_2_in document_meant place row) (λ (p : RowField Path). meant_1_in kind_meant p.place p.rest >>> (λ (k : RowField (List ℕ)). body_in limit k.place k.rest >>> (λ (b : RowField (List ℕ)). whole b.place b.rest (Doc p.value k.value b.value)))) d done in
    let p = one.by in
    let path = document_field-ok place row p small one.first in
    let two = went (meant_1_in kind_meant p.place p.rest) (λ (k : RowField (List ℕ)). body_in limit k.place k.rest >>> (λ (b : RowField (List ℕ)). whole b.place b.rest (Doc p.value k.value b.value))) d one.after in
    let k = two.by in
    let kind = kind_field-ok p.place p.rest k path.0.small two.first in
    let three = went (body_in limit k.place k.rest) (λ (b : RowField (List ℕ)). whole b.place b.rest (Doc p.value k.value b.value)) d two.after in
    let b = three.by in
    let body = body_in-ok limit k.place k.rest b kind.small three.first in
    let end = whole-ok b.place b.rest (Doc p.value k.value b.value) d three.after in
    subst (λ (d : Document). IsDocument limit row d) end.0 (record {
      whole = path.0.whole
          ∙ ap (λ t. behind_2 (plain_text p.value) ++ t) (kind.whole
          ∙ ap (λ t. behind_1 k.value ++ t) (body.0.whole ∙ ap (λ t. behind_4 b.value ++ t) end.1 ∙ append-nil (behind_4 b.value)));
      document = path.1;
      within = body.1;
    })

-- ---- records

pub record IsRow (row : List ℕ) (it : Record) : Type 0 where
  pub spelled : spelling it ≡ row
  pub writable : is_writable it ≡ true

fits_limit : (n limit : ℕ) → n ≤ limit → nat_le n limit ≡ true
fits_limit n limit within = grind (arith, nat_tests, within)

put_ok : (row : List ℕ) (it : Record) → AreBytes row → put_reading row ≡ Ok it → IsRow (1 ∷ 1 ∷ row) it
put_ok row it small done =
    let step = went (document_reading_at (body_limit None) 2 row) (λ d. Ok (put_of d None)) it done in
    let d = step.by in
    let is = document_ok (body_limit None) 2 row d small step.first in
    let made = step.after in
    let same : put_of d None ≡ it = cc in
    subst (λ (it : Record). IsRow (1 ∷ 1 ∷ row) it) same (record {
      spelled = ap (λ t. 1 ∷ 1 ∷ t) (sym is.whole);
      writable = and_from _ _ is.document (fits_limit (length d.body) 16777216 is.within);
    })

remove_ok : (writer : Option (List ℕ)) (place : ℕ) (row : List ℕ) (it : Record) → AreBytes row → remove_reading writer place row ≡ Ok it
    → (path : Path) × (it ≡ Remove path writer) × (row ≡ behind_2 (plain_text path)) × (is_document path ≡ true)
remove_ok writer place row it small done =
    let step = went (meant_2_in document_meant place row) (λ (p : RowField Path). whole p.place p.rest (Remove p.value writer)) it done in
    let p = step.by in
    let path = document_field-ok place row p small step.first in
    let end = whole-ok p.place p.rest (Remove p.value writer) it step.after in
    (p.value, sym end.0, path.0.whole ∙ ap (λ t. behind_2 (plain_text p.value) ++ t) end.1 ∙ append-nil (behind_2 (plain_text p.value)), path.1)

plain_remove_ok : (row : List ℕ) (it : Record) → AreBytes row → remove_reading None 2 row ≡ Ok it → IsRow (1 ∷ 2 ∷ row) it
plain_remove_ok row it small done =
    let is = remove_ok None 2 row it small done in
    subst (λ (it : Record). IsRow (1 ∷ 2 ∷ row) it) (sym is.1) (record { spelled = ap (λ t. 1 ∷ 2 ∷ t) (sym is.2); writable = is.3 })

grant_ok : (row : List ℕ) (it : Record) → AreBytes row → grant_reading row ≡ Ok it → IsRow (1 ∷ 3 ∷ row) it
grant_ok row it small done =
    let one = went (fixed_in 16 2 row) (λ (t : RowField (List ℕ)). meant_2_in scopes_meant t.place t.rest >>> (λ (s : RowField (List Scope)). whole s.place s.rest (Grant t.value s.value))) it done in
    let t = one.by in
    let token = fixed_in-ok 16 2 row t small one.first in
    let two = went (meant_2_in scopes_meant t.place t.rest) (λ (s : RowField (List Scope)). whole s.place s.rest (Grant t.value s.value)) it one.after in
    let s = two.by in
    let scopes = scopes_field-ok t.place t.rest s token.small two.first in
    let end = whole-ok s.place s.rest (Grant t.value s.value) it two.after in
    let text = behind_2 (scopes_text s.value) in
    subst (λ (it : Record). IsRow (1 ∷ 3 ∷ row) it) end.0 (record {
      spelled = ap (λ t. 1 ∷ 3 ∷ t) (sym (token.whole ∙ ap (λ r. t.value ++ r) (scopes.whole ∙ ap (λ r. text ++ r) end.1 ∙ append-nil text)));
      writable = refl;
    })

revoke_ok : (row : List ℕ) (it : Record) → AreBytes row → revoke_reading row ≡ Ok it → IsRow (1 ∷ 4 ∷ row) it
revoke_ok row it small done =
    let one = went (fixed_in 16 2 row) (λ (t : RowField (List ℕ)). whole t.place t.rest (Revoke t.value)) it done in
    let t = one.by in
    let token = fixed_in-ok 16 2 row t small one.first in
    let end = whole-ok t.place t.rest (Revoke t.value) it one.after in
    subst (λ (it : Record). IsRow (1 ∷ 4 ∷ row) it) end.0 (record {
      spelled = ap (λ t. 1 ∷ 4 ∷ t) (sym (token.whole ∙ ap (λ r. t.value ++ r) end.1 ∙ append-nil t.value));
      writable = refl;
    })

digested-ok : (digest : List ℕ) (d : Document) (writer : List ℕ) (it : Record) → digested digest d writer ≡ Ok it
    → (digest ≡ sha256 d.body) × (put_of d (Some writer) ≡ it)
digested-ok digest d writer it done =
    ⊎_elim
    (λ right. let is : Ok (put_of d (Some writer)) ≡ Ok it = sym (cond-true _ _ _ right) ∙ done in ((bytes_eq-Decides digest (sha256 d.body)).0 right, cc))
    (λ other. let wrong : Err (Bad 18) ≡ Ok it = sym (cond-false _ _ _ other) ∙ done in absurd (cc))
    (cases_Bool (bytes_eq digest (sha256 d.body)))

written_put_ok : (row : List ℕ) (it : Record) → AreBytes row → written_put_reading row ≡ Ok it → IsRow (2 ∷ 1 ∷ row) it
written_put_ok row it small done =
    let one = went (fixed_in 16 2 row) (λ (w : RowField (List ℕ)). fixed_in 32 w.place w.rest >>> (λ (h : RowField (List ℕ)). document_reading_at (body_limit (Some w.value)) h.place h.rest >>> (λ d. digested h.value d w.value))) it done in
    let w = one.by in
    let writer = fixed_in-ok 16 2 row w small one.first in
    let two = went (fixed_in 32 w.place w.rest) (λ (h : RowField (List ℕ)). document_reading_at (body_limit (Some w.value)) h.place h.rest >>> (λ d. digested h.value d w.value)) it one.after in
    let h = two.by in
    let digest = fixed_in-ok 32 w.place w.rest h writer.small two.first in
    let three = went (document_reading_at (body_limit (Some w.value)) h.place h.rest) (λ d. digested h.value d w.value) it two.after in
    let d = three.by in
    let is = document_ok (body_limit (Some w.value)) h.place h.rest d digest.small three.first in
    let right = digested-ok h.value d w.value it three.after in
    subst (λ (it : Record). IsRow (2 ∷ 1 ∷ row) it) right.1 (record {
      spelled = ap (λ t. 2 ∷ 1 ∷ t) (sym (writer.whole ∙ ap (λ r. w.value ++ r) (digest.whole ∙ ap (λ f. f ++ h.rest) right.0 ∙ ap (λ r. sha256 d.body ++ r) is.whole)));
      writable = and_from _ _ is.document (fits_limit (length d.body) 67108864 is.within);
    })

written_remove_ok : (row : List ℕ) (it : Record) → AreBytes row → written_remove_reading row ≡ Ok it → IsRow (2 ∷ 2 ∷ row) it
written_remove_ok row it small done =
    let one = went (fixed_in 16 2 row) (λ (w : RowField (List ℕ)). remove_reading (Some w.value) w.place w.rest) it done in
    let w = one.by in
    let writer = fixed_in-ok 16 2 row w small one.first in
    let is = remove_ok (Some w.value) w.place w.rest it writer.small one.after in
    subst (λ (it : Record). IsRow (2 ∷ 2 ∷ row) it) (sym is.1) (record {
      spelled = ap (λ t. 2 ∷ 2 ∷ t) (sym (writer.whole ∙ ap (λ r. w.value ++ r) is.2));
      writable = is.3;
    })

-- ---- formats

-- the reading is that of this byte, or of the others
by_byte : (kind wanted : ℕ) (here others : Result Record RowFault) (it : Record) (P : ℕ → Type 0)
    → (if kind == wanted then here else others) ≡ Ok it → (here ≡ Ok it → P wanted) → (others ≡ Ok it → P kind) → P kind
by_byte kind wanted here others it P done then_here then_others =
    ⊎_elim
    (λ same. let equal : wanted ≡ kind = grind (arith, nat_tests, same) in subst P equal (then_here (sym (cond-true _ _ _ same) ∙ done)))
    (λ other. then_others (sym (cond-false _ _ _ other) ∙ done))
    (cases_Bool (kind == wanted))

first_ok : (row : List ℕ) (it : Record) → AreBytes row → first_format row ≡ Ok it → IsRow (1 ∷ row) it
first_ok [] it small done = absurd (cc)
first_ok (kind ∷ row) it small done =
    let Is : ℕ → Type 0 = λ k. IsRow (1 ∷ k ∷ row) it in
    let rest : AreBytes row = λ i. small (suc i) in
    by_byte kind 1 _ _ it Is done (put_ok row it rest)
    (λ done. by_byte kind 2 _ _ it Is done (plain_remove_ok row it rest)
    (λ done. by_byte kind 3 _ _ it Is done (grant_ok row it rest)
    (λ done. by_byte kind 4 _ _ it Is done (revoke_ok row it rest) (λ done. absurd (cc)))))

second_ok : (row : List ℕ) (it : Record) → AreBytes row → second_format row ≡ Ok it → IsRow (2 ∷ row) it
second_ok [] it small done = absurd (cc)
second_ok (kind ∷ row) it small done =
    let Is : ℕ → Type 0 = λ k. IsRow (2 ∷ k ∷ row) it in
    let rest : AreBytes row = λ i. small (suc i) in
    by_byte kind 1 _ _ it Is done (written_put_ok row it rest)
    (λ done. by_byte kind 2 _ _ it Is done (written_remove_ok row it rest) (λ done. absurd (cc)))

-- a row that is read is the spelling of its record
pub record_ok : (row : List ℕ) (it : Record) → AreBytes row → record_reading row ≡ Ok it → IsRow row it
record_ok [] it small done = absurd (cc)
record_ok (format ∷ row) it small done =
    let Is : ℕ → Type 0 = λ f. IsRow (f ∷ row) it in
    let rest : AreBytes row = λ i. small (suc i) in
    by_byte format 1 _ _ it Is done (first_ok row it rest)
    (λ done. by_byte format 2 _ _ it Is done (second_ok row it rest) (λ done. absurd (cc)))
