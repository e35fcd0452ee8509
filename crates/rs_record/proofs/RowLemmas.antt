-- A record's row is read as the record, and what is behind it is surplus.
use Rattle.std.proofs.Common.{◌≡◌, ℕ, ◌+◌, ◌<◌, ◌≤◌, ◌^◌, true, false, nat_le, List, [], ◌∷◌, ◌++◌, length, Option, Some, None, Result, Ok, Err, arith, refl, sym, ap, ◌∙◌, length-append, append_assoc}
use Rattle.std.proofs.lemmas.Bool.{and_parts, cond-true}
use Rattle.std.proofs.lemmas.Bool.Decides.{nat_tests}
use Rattle.std.proofs.lemmas.List.{append-nil}
use Rattle.std.proofs.lemmas.Slice.Eq.{bytes_eq-Decides}
use Rattle.sha2.specs.Sha256.{sha256}
use Rattle.sha2.proofs.Facts256.{length-sha256}
use Rattle.rs_path.specs.Kinds.{is_kind}
use Rattle.rs_path.specs.Paths.{Path, is_path, plain_text}
use Rattle.rs_path.proofs.Cited.{length-plain_text}
use Rattle.rs_scope.specs.Tokens.{is_token}
use Rattle.rs_scope.specs.declared.scope.Scope.{Scope}
use Rattle.rs_scope.specs.Scopes.{scopes_text, is_scopes}
use Rattle.rs_scope.proofs.Cited.{HasToken-from, HasScopes-from}
use Rattle.rs_row.specs.declared.row_fault.RowFault.{RowFault}
use Rattle.rs_row.specs.declared.row_fault.RowFault.TheVariants.{Bad}
use Rattle.rs_row.specs.RowTexts.{behind_1, behind_2, behind_4}
use Rattle.rs_row.specs.RowFields.{RowField, ◌>>>◌, document_meant, kind_meant, scopes_meant, fixed_in, meant_1_in, meant_2_in, body_in, whole}
use Rattle.rs_row.proofs.Cited.{At, fixed_in-front, meant_1_in-text, meant_2_in-text, document_meant-text, kind_meant-text, scopes_meant-text, body_in-text}
use Rattle.rs_record.specs.declared.records.Record.{Record}
use Rattle.rs_record.specs.declared.records.Record.TheVariants.{Put, Remove, Grant, Revoke}
use Rattle.rs_record.specs.Records.{body_limit, is_document, is_writable, is_writer, is_record}
use Rattle.rs_record.specs.Rows.{document_fields, spelling}
use Rattle.rs_record.specs.RowReadings.{Document, document_reading_at, put_of, remove_reading, grant_reading, digested, written_put_reading, written_remove_reading, record_reading}

-- ---- fields

not_folder : (path : Path) → is_document path ≡ true → path.folder ≡ false
not_folder path document = grind (arith, nat_tests, document)

document_field-text : (place : ℕ) (path : Path) (more : List ℕ) → is_path path ≡ true → is_document path ≡ true
    → meant_2_in document_meant place (behind_2 (plain_text path) ++ more) ≡ Ok (At path (place + 2 + length (plain_text path)) more)
document_field-text place path more is document =
    let small : length (plain_text path) < 2 ^ 16 = omega (arith, length-plain_text path is) in
    meant_2_in-text document_meant place (plain_text path) more path small (document_meant-text path is (not_folder path document))

kind_field-text : (place : ℕ) (kind more : List ℕ) → is_kind kind ≡ true
    → meant_1_in kind_meant place (behind_1 kind ++ more) ≡ Ok (At kind (place + 1 + length kind) more)
kind_field-text place kind more is = meant_1_in-text kind_meant place kind more kind (kind_meant-text kind is)

scopes_field-text : (place : ℕ) (scopes : List Scope) (more : List ℕ) → is_scopes scopes ≡ true
    → meant_2_in scopes_meant place (behind_2 (scopes_text scopes) ++ more) ≡ Ok (At scopes (place + 2 + length (scopes_text scopes)) more)
scopes_field-text place scopes more is =
    let short = (HasScopes-from scopes is).short in
    let small : length (scopes_text scopes) < 2 ^ 16 = omega (arith, short) in
    meant_2_in-text scopes_meant place (scopes_text scopes) more scopes small (scopes_meant-text scopes is)

-- ---- a document

abbrev Doc : Path → List ℕ → List ℕ → Document
Doc path kind body = record { path = path; kind = kind; body = body }

fields_more : (path : Path) (kind body more : List ℕ)
    → document_fields path kind body ++ more ≡ behind_2 (plain_text path) ++ (behind_1 kind ++ (behind_4 body ++ more))
fields_more path kind body more =
    append_assoc (behind_2 (plain_text path)) (behind_1 kind ++ behind_4 body) more
    ∙ ap (λ t. behind_2 (plain_text path) ++ t) (append_assoc (behind_1 kind) (behind_4 body) more)

length-fields : (path : Path) (kind body : List ℕ)
    → length (document_fields path kind body) ≡ 2 + length (plain_text path) + 1 + length kind + 4 + length body
length-fields path kind body =
    omega (arith, length-append (plain_text path) (behind_1 kind ++ behind_4 body), length-append kind (behind_4 body))

document_more : (limit place : ℕ) (path : Path) (kind body more : List ℕ) → is_path path ≡ true → is_document path ≡ true → is_kind kind ≡ true
    → length body ≤ limit → limit < 2 ^ 32
    → document_reading_at limit place (document_fields path kind body ++ more) ≡ whole (place + length (document_fields path kind body)) more (Doc path kind body)
document_more limit place path kind body more is document named within few =
    let behind_path = place + 2 + length (plain_text path) in
    let behind_kind = behind_path + 1 + length kind in
    let count : behind_kind + 4 + length body ≡ place + length (document_fields path kind body) = omega (arith, length-fields path kind body) in
    ap (document_reading_at limit place) (fields_more path kind body more)
    ∙ ap (λ (r : Result (RowField Path) RowFault). r >>> (λ (p : RowField Path). meant_1_in kind_meant p.place p.rest >>> (λ (k : RowField (List ℕ)). body_in limit k.place k.rest >>> (λ (b : RowField (List ℕ)). whole b.place b.rest (Doc p.value k.value b.value)))))
    (document_field-text place path (behind_1 kind ++ (behind_4 body ++ more)) is document)
    ∙ ap (λ (r : Result (RowField (List ℕ)) RowFault). r >>> (λ (k : RowField (List ℕ)). body_in limit k.place k.rest >>> (λ (b : RowField (List ℕ)). whole b.place b.rest (Doc path k.value b.value))))
    (kind_field-text behind_path kind (behind_4 body ++ more) named)
    ∙ ap (λ (r : Result (RowField (List ℕ)) RowFault). r >>> (λ (b : RowField (List ℕ)). whole b.place b.rest (Doc path kind b.value)))
    (body_in-text limit behind_kind body more within few)
    ∙ ap (λ n. whole n more (Doc path kind body)) count

-- ---- records

whole_then : {X Y : Type 0} (place : ℕ) (row : List ℕ) (x : X) (next : X → Result Y RowFault) (y : Y) → next x ≡ Ok y
    → (whole place row x >>> next) ≡ whole place row y
whole_then place [] x next y goes = goes
whole_then place (byte ∷ row) x next y goes = refl

-- a record's row and what is behind it
abbrev ReadsMore : Record → List ℕ → Type 0
ReadsMore it more = record_reading (spelling it ++ more) ≡ whole (length (spelling it)) more it

put_more : (path : Path) (kind body more : List ℕ) → is_path path ≡ true → is_document path ≡ true → is_kind kind ≡ true → length body ≤ 16777216
    → ReadsMore (Put path kind body None) more
put_more path kind body more is document named within =
    let place : 2 + length (document_fields path kind body) ≡ length (spelling (Put path kind body None)) = omega arith in
    ap (λ (r : Result Document RowFault). r >>> (λ d. Ok (put_of d None))) (document_more 16777216 2 path kind body more is document named within (omega arith))
    ∙ whole_then (2 + length (document_fields path kind body)) more (Doc path kind body) (λ d. Ok (put_of d None)) (Put path kind body None) refl
    ∙ ap (λ n. whole n more (Put path kind body None)) place

written_put_more : (path : Path) (kind body writer more : List ℕ) → is_path path ≡ true → is_document path ≡ true → is_kind kind ≡ true → length body ≤ 67108864
    → length writer ≡ 16 → ReadsMore (Put path kind body (Some writer)) more
written_put_more path kind body writer more is document named within count =
    let it = Put path kind body (Some writer) in
    let fields = document_fields path kind body in
    let digest = sha256 body in
    let sized = length-sha256 body in
    let parts : (writer ++ (digest ++ fields)) ++ more ≡ writer ++ (digest ++ (fields ++ more)) =
    append_assoc writer (digest ++ fields) more ∙ ap (λ t. writer ++ t) (append_assoc digest fields more) in
    let place : 50 + length fields ≡ length (spelling it) = omega (arith, length-append writer (digest ++ fields), length-append digest fields, sized, count) in
    let right : digested digest (Doc path kind body) writer ≡ Ok it = cond-true _ _ _ ((bytes_eq-Decides digest digest).1 refl) in
    ap written_put_reading parts
    ∙ ap (λ (r : Result (RowField (List ℕ)) RowFault). r >>> (λ (w : RowField (List ℕ)). fixed_in 32 w.place w.rest >>> (λ (h : RowField (List ℕ)). document_reading_at (body_limit (Some w.value)) h.place h.rest >>> (λ d. digested h.value d w.value))))
    (fixed_in-front 16 2 writer (digest ++ (fields ++ more)) count)
    ∙ ap (λ (r : Result (RowField (List ℕ)) RowFault). r >>> (λ (h : RowField (List ℕ)). document_reading_at 67108864 h.place h.rest >>> (λ d. digested h.value d writer)))
    (fixed_in-front 32 18 digest (fields ++ more) sized)
    ∙ ap (λ (r : Result Document RowFault). r >>> (λ d. digested digest d writer)) (document_more 67108864 50 path kind body more is document named within (omega arith))
    ∙ whole_then (50 + length fields) more (Doc path kind body) (λ d. digested digest d writer) it right
    ∙ ap (λ n. whole n more it) place

remove_reading-text : (writer : Option (List ℕ)) (place : ℕ) (path : Path) (more : List ℕ) → is_path path ≡ true → is_document path ≡ true
    → remove_reading writer place (behind_2 (plain_text path) ++ more) ≡ whole (place + 2 + length (plain_text path)) more (Remove path writer)
remove_reading-text writer place path more is document =
    ap (λ (r : Result (RowField Path) RowFault). r >>> (λ (p : RowField Path). whole p.place p.rest (Remove p.value writer))) (document_field-text place path more is document)

remove_more : (path : Path) (more : List ℕ) → is_path path ≡ true → is_document path ≡ true → ReadsMore (Remove path None) more
remove_more path more is document =
    let place : 2 + 2 + length (plain_text path) ≡ length (spelling (Remove path None)) = omega arith in
    remove_reading-text None 2 path more is document ∙ ap (λ n. whole n more (Remove path None)) place

written_remove_more : (path : Path) (writer more : List ℕ) → is_path path ≡ true → is_document path ≡ true → length writer ≡ 16
    → ReadsMore (Remove path (Some writer)) more
written_remove_more path writer more is document count =
    let it = Remove path (Some writer) in
    let text = behind_2 (plain_text path) in
    let place : 18 + 2 + length (plain_text path) ≡ length (spelling it) = omega (arith, length-append writer text, count) in
    ap written_remove_reading (append_assoc writer text more)
    ∙ ap (λ (r : Result (RowField (List ℕ)) RowFault). r >>> (λ (w : RowField (List ℕ)). remove_reading (Some w.value) w.place w.rest)) (fixed_in-front 16 2 writer (text ++ more) count)
    ∙ remove_reading-text (Some writer) 18 path more is document
    ∙ ap (λ n. whole n more it) place

grant_more : (token : List ℕ) (scopes : List Scope) (more : List ℕ) → length token ≡ 16 → is_scopes scopes ≡ true → ReadsMore (Grant token scopes) more
grant_more token scopes more count lawful =
    let it = Grant token scopes in
    let text = behind_2 (scopes_text scopes) in
    let place : 18 + 2 + length (scopes_text scopes) ≡ length (spelling it) = omega (arith, length-append token text, count) in
    ap grant_reading (append_assoc token text more)
    ∙ ap (λ (r : Result (RowField (List ℕ)) RowFault). r >>> (λ (t : RowField (List ℕ)). meant_2_in scopes_meant t.place t.rest >>> (λ (s : RowField (List Scope)). whole s.place s.rest (Grant t.value s.value))))
    (fixed_in-front 16 2 token (text ++ more) count)
    ∙ ap (λ (r : Result (RowField (List Scope)) RowFault). r >>> (λ (s : RowField (List Scope)). whole s.place s.rest (Grant token s.value)))
    (scopes_field-text 18 scopes more lawful)
    ∙ ap (λ n. whole n more it) place

revoke_more : (token more : List ℕ) → length token ≡ 16 → ReadsMore (Revoke token) more
revoke_more token more count =
    let place : 2 + 16 ≡ length (spelling (Revoke token)) = omega (arith, count) in
    ap (λ (r : Result (RowField (List ℕ)) RowFault). r >>> (λ (t : RowField (List ℕ)). whole t.place t.rest (Revoke t.value))) (fixed_in-front 16 2 token more count)
    ∙ ap (λ n. whole n more (Revoke token)) place

-- a record's row is read as the record, and what is behind it is surplus
pub record_more : (it : Record) (more : List ℕ) → is_record it ≡ true → record_reading (spelling it ++ more) ≡ whole (length (spelling it)) more it
record_more (Put path kind body None) more is =
    let both = and_parts _ (is_writable (Put path kind body None)) is in
    let named = and_parts _ (is_writer None) both.0 in
    let parts = and_parts (is_path path) (is_kind kind) named.0 in
    let fits = and_parts (is_document path) (nat_le (length body) 16777216) both.1 in
    let short = fits.1 in
    put_more path kind body more parts.0 fits.0 parts.1 (grind (arith, nat_tests, short))
record_more (Put path kind body (Some writer)) more is =
    let both = and_parts _ (is_writable (Put path kind body (Some writer))) is in
    let named = and_parts _ (is_writer (Some writer)) both.0 in
    let parts = and_parts (is_path path) (is_kind kind) named.0 in
    let fits = and_parts (is_document path) (nat_le (length body) 67108864) both.1 in
    let short = fits.1 in
    written_put_more path kind body writer more parts.0 fits.0 parts.1 (grind (arith, nat_tests, short)) (HasToken-from writer named.1).count
record_more (Remove path None) more is =
    let both = and_parts _ (is_document path) is in
    let parts = and_parts (is_path path) (is_writer None) both.0 in
    remove_more path more parts.0 both.1
record_more (Remove path (Some writer)) more is =
    let both = and_parts _ (is_document path) is in
    let parts = and_parts (is_path path) (is_writer (Some writer)) both.0 in
    written_remove_more path writer more parts.0 both.1 (HasToken-from writer parts.1).count
record_more (Grant token scopes) more is =
    let both = and_parts _ (is_writable (Grant token scopes)) is in
    let parts = and_parts (is_token token) (is_scopes scopes) both.0 in
    grant_more token scopes more (HasToken-from token parts.0).count parts.1
record_more (Revoke token) more is =
    let both = and_parts (is_token token) (is_writable (Revoke token)) is in
    revoke_more token more (HasToken-from token both.0).count

-- ---- laws

pub record_back : (it : Record) → is_record it ≡ true → record_reading (spelling it) ≡ Ok it
record_back it is = ap record_reading (sym (append-nil (spelling it))) ∙ record_more it [] is

pub record_surplus : (it : Record) (byte : ℕ) (more : List ℕ) → is_record it ≡ true → record_reading (spelling it ++ byte ∷ more) ≡ Err (Bad (length (spelling it)))
record_surplus it byte more is = record_more it (byte ∷ more) is

pub no_front : (it other : Record) (more : List ℕ) → is_record it ≡ true → is_record other ≡ true → spelling it ++ more ≡ spelling other → more ≡ []
no_front it other [] is is_other same = refl
no_front it other (byte ∷ more) is is_other same =
    let wrong : Err (Bad (length (spelling it))) ≡ Ok other = sym (record_surplus it byte more is) ∙ ap record_reading same ∙ record_back other is_other in
    absurd (cc)

pub same_record : (it other : Record) → is_record it ≡ true → is_record other ≡ true → spelling it ≡ spelling other → it ≡ other
same_record it other is is_other same =
    let read : Ok it ≡ Ok other = sym (record_back it is) ∙ ap record_reading same ∙ record_back other is_other in cc
