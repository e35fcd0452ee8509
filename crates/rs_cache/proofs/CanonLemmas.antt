-- A row that is read as an event is the event's row.
use Rattle.std.proofs.Common.{◌≡◌, ℕ, ◌+◌, ◌==◌, if◌then◌else◌, true, false, List, [], ◌∷◌, ◌++◌, Option, Some, None, Result, Ok, Err, arith, refl, sym, ap, ◌∙◌, subst, suc, ⊎_elim, append-nil, append_assoc}
use Rattle.std.specs.Int.{w16, w64, to_be_bytes}
use Rattle.std.specs.Str.{bytes_eq}
use Rattle.std.proofs.lemmas.Bool.{cases_Bool, cond-true, cond-false}
use Rattle.std.proofs.lemmas.Bool.Decides.{nat_tests}
use Rattle.std.proofs.lemmas.Slice.Eq.{bytes_eq-Decides}
use Rattle.rs_path.specs.Paths.{Path, plain_text, is_nil}
use Rattle.rs_path.specs.Tags.{is_tag}
use Rattle.rs_scope.specs.declared.scope.Scope.{Scope}
use Rattle.rs_scope.specs.Scopes.{scopes_text}
use Rattle.rs_talk.specs.declared.base.Base.{Base}
use Rattle.rs_talk.specs.declared.change.Change.{Change}
use Rattle.rs_talk.specs.declared.change.Change.TheVariants.{Put, Remove}
use Rattle.rs_talk.specs.declared.root_fault.RootFault.{RootFault}
use Rattle.rs_talk.specs.Bearers.{is_bearer}
use Rattle.rs_talk.specs.Roots.{Root, root_text, root_reading}
use Rattle.rs_row.specs.declared.row_fault.RowFault.{RowFault}
use Rattle.rs_row.specs.declared.row_fault.RowFault.TheVariants.{Bad}
use Rattle.rs_row.specs.RowTexts.{behind_1, behind_2, behind_4}
use Rattle.rs_row.specs.RowFields.{RowField, ◌>>>◌, path_meant, document_meant, kind_meant, optional_tag_meant, scopes_meant, meant_1_in, meant_2_in, u16_in, u64_in, byte_meant, body_in, whole}
use Rattle.rs_row.proofs.Cited.{At, AreBytes, Went, went, Begins, Meant, meant_1_in-ok, meant_2_in-ok, path_is, document_is, kind_is, scopes_is, u16_in-ok, u64_in-ok, body_in-ok, IsByte, byte_meant-ok, whole-ok}
use Rattle.rs_cache.specs.declared.event.Event.{Event}
use Rattle.rs_cache.specs.declared.event.Event.TheVariants.{Connect, Edit, Sent, Accepted, Absorbed, Held, Conflict as ConflictMade, Pulled, Gone, Settled, Unsettled, Resolved}
use Rattle.rs_cache.specs.declared.resolve.Resolve.{Resolve}
use Rattle.rs_cache.specs.declared.resolve.Resolve.TheVariants.{Keep, Drop}
use Rattle.rs_cache.specs.EventRows.{path_bytes, tag_bytes, content_bytes, change_bytes, base_bytes, remote_bytes, resolve_byte, event_row, SpellsRow}
use Rattle.rs_cache.specs.EventReadings.{Content, root_if_written, root_meant, bearer_meant, resolve_meant, content_in, put_in, change_in, base_behind, remote_behind, remote_in, connect_reading, edit_reading, document_event_reading, tag_event_reading, held_reading, conflict_reading, pulled_of, pulled_reading, settled_of, settled_reading, unsettled_reading, resolved_reading, event_of_kind, event_behind, event_reading}

-- ---- texts

path_begins : (place : ℕ) (row : List ℕ) (f : RowField Path) → AreBytes row → meant_2_in path_meant place row ≡ Ok f → Begins (path_bytes f.value) row f.rest
path_begins place row f small done =
    let is = meant_2_in-ok path_meant place row f small done in
    subst (λ (t : List ℕ). Begins (behind_2 t) row f.rest) (sym (path_is is.text f.value is.stands)) is.begins

document_begins : (place : ℕ) (row : List ℕ) (f : RowField Path) → AreBytes row → meant_2_in document_meant place row ≡ Ok f → Begins (path_bytes f.value) row f.rest
document_begins place row f small done =
    let is = meant_2_in-ok document_meant place row f small done in
    subst (λ (t : List ℕ). Begins (behind_2 t) row f.rest) (sym (document_is is.text f.value is.stands).0) is.begins

kind_begins : (place : ℕ) (row : List ℕ) (f : RowField (List ℕ)) → AreBytes row → meant_1_in kind_meant place row ≡ Ok f → Begins (behind_1 f.value) row f.rest
kind_begins place row f small done =
    let is = meant_1_in-ok kind_meant place row f small done in
    subst (λ (t : List ℕ). Begins (behind_1 t) row f.rest) (sym (kind_is is.text f.value is.stands)) is.begins

scopes_begin : (place : ℕ) (row : List ℕ) (f : RowField (List Scope)) → AreBytes row → meant_2_in scopes_meant place row ≡ Ok f → Begins (behind_2 (scopes_text f.value)) row f.rest
scopes_begin place row f small done =
    let is = meant_2_in-ok scopes_meant place row f small done in
    subst (λ (t : List ℕ). Begins (behind_2 t) row f.rest) (sym (scopes_is is.text f.value is.stands)) is.begins

tag_is : (text : List ℕ) (tag : Option (List ℕ)) → optional_tag_meant text ≡ Some tag → tag_bytes tag ≡ behind_1 text
tag_is [] tag found =
    let same : None ≡ tag = cc in
    ap tag_bytes (sym same)
tag_is (byte ∷ bytes) tag found =
    ⊎_elim
    (λ named.
    let is : Some (Some (byte ∷ bytes)) ≡ Some tag = sym (cond-true (is_tag (byte ∷ bytes)) _ _ named) ∙ found in
    let same : Some (byte ∷ bytes) ≡ tag = cc in
    ap tag_bytes (sym same))
    (λ other. let none : None ≡ Some tag = sym (cond-false (is_tag (byte ∷ bytes)) _ _ other) ∙ found in absurd (cc))
    (cases_Bool (is_tag (byte ∷ bytes)))

tag_begins : (place : ℕ) (row : List ℕ) (f : RowField (Option (List ℕ))) → AreBytes row → meant_1_in optional_tag_meant place row ≡ Ok f → Begins (tag_bytes f.value) row f.rest
tag_begins place row f small done =
    let is = meant_1_in-ok optional_tag_meant place row f small done in
    subst (λ (t : List ℕ). Begins t row f.rest) (sym (tag_is is.text f.value is.stands)) is.begins

root_written : (text : List ℕ) (r : Result Root RootFault) (root : Root) → root_if_written text r ≡ Some root → root_text root ≡ text
root_written text (Ok read) root found =
    ⊎_elim
    (λ written.
    let is : Some read ≡ Some root = sym (cond-true _ _ _ written) ∙ found in
    let same : read ≡ root = cc in
    ap root_text (sym same) ∙ (bytes_eq-Decides (root_text read) text).0 written)
    (λ other. let none : None ≡ Some root = sym (cond-false _ _ _ other) ∙ found in absurd (cc))
    (cases_Bool (bytes_eq (root_text read) text))
root_written text (Err fault) root found = absurd (cc)

root_begins : (place : ℕ) (row : List ℕ) (f : RowField Root) → AreBytes row → meant_2_in root_meant place row ≡ Ok f → Begins (behind_2 (root_text f.value)) row f.rest
root_begins place row f small done =
    let is = meant_2_in-ok root_meant place row f small done in
    subst (λ (t : List ℕ). Begins (behind_2 t) row f.rest) (sym (root_written is.text (root_reading is.text) f.value is.stands)) is.begins

bearer_is : (text token : List ℕ) → bearer_meant text ≡ Some token → token ≡ text
bearer_is text token found =
    ⊎_elim
    (λ named. let is : Some text ≡ Some token = sym (cond-true _ _ _ named) ∙ found in cc)
    (λ other. let none : None ≡ Some token = sym (cond-false _ _ _ other) ∙ found in absurd (cc))
    (cases_Bool (is_bearer text))

bearer_begins : (place : ℕ) (row : List ℕ) (f : RowField (List ℕ)) → AreBytes row → meant_2_in bearer_meant place row ≡ Ok f → Begins (behind_2 f.value) row f.rest
bearer_begins place row f small done =
    let is = meant_2_in-ok bearer_meant place row f small done in
    subst (λ (t : List ℕ). Begins (behind_2 t) row f.rest) (sym (bearer_is is.text f.value is.stands)) is.begins

-- ---- contents

content_begins : (limit place : ℕ) (row : List ℕ) (f : RowField Content) → AreBytes row → content_in limit place row ≡ Ok f
    → Begins (content_bytes f.value.kind f.value.body) row f.rest
content_begins limit place row f small done =
    let Both : List ℕ → List ℕ → Content = λ k b. record { kind = k; body = b } in
    let one = went (meant_1_in kind_meant place row) (λ (k : RowField (List ℕ)). body_in limit k.place k.rest >>> (λ (b : RowField (List ℕ)). Ok (At (Both k.value b.value) b.place b.rest))) f done in
    let k = one.by in
    let kind = kind_begins place row k small one.first in
    let two = went (body_in limit k.place k.rest) (λ (b : RowField (List ℕ)). Ok (At (Both k.value b.value) b.place b.rest)) f one.after in
    let b = two.by in
    let body = (body_in-ok limit k.place k.rest b kind.small two.first).0 in
    let made = two.after in
    let same : At (Both k.value b.value) b.place b.rest ≡ f = cc in
    subst (λ (g : RowField Content). Begins (content_bytes g.value.kind g.value.body) row g.rest) same (record {
      whole = kind.whole ∙ ap (λ t. behind_1 k.value ++ t) body.whole ∙ sym (append_assoc (behind_1 k.value) (behind_4 b.value) b.rest);
      small = body.small;
    })

put_begins : (place : ℕ) (row : List ℕ) (f : RowField Change) → AreBytes row → put_in place row ≡ Ok f → Begins (change_bytes f.value) (1 ∷ row) f.rest
put_begins place row f small done =
    let one = went (content_in 67108864 place row) (λ (c : RowField Content). Ok (At (Put c.value.kind c.value.body) c.place c.rest)) f done in
    let c = one.by in
    let content = content_begins 67108864 place row c small one.first in
    let made = one.after in
    let same : At (Put c.value.kind c.value.body) c.place c.rest ≡ f = cc in
    subst (λ (g : RowField Change). Begins (change_bytes g.value) (1 ∷ row) g.rest) same (record {
      whole = ap (λ t. 1 ∷ t) content.whole;
      small = content.small;
    })

abbrev removed_in : ℕ → List ℕ → Result (RowField Change) RowFault
removed_in place row = Ok (At Remove place row)

remove_begins : (place : ℕ) (row : List ℕ) (f : RowField Change) → AreBytes row → removed_in place row ≡ Ok f → Begins (change_bytes f.value) (2 ∷ row) f.rest
remove_begins place row f small done =
    let same : At Remove place row ≡ f = cc in
    subst (λ (g : RowField Change). Begins (change_bytes g.value) (2 ∷ row) g.rest) same (record { whole = refl; small = small })

-- the reading is that of this byte, or of the others
by_byte : {X : Type 0} (kind wanted : ℕ) (here others : Result X RowFault) (x : X) (P : ℕ → Type 0)
    → (if kind == wanted then here else others) ≡ Ok x → (here ≡ Ok x → P wanted) → (others ≡ Ok x → P kind) → P kind
by_byte kind wanted here others x P done then_here then_others =
    ⊎_elim
    (λ same. let equal : wanted ≡ kind = grind (arith, nat_tests, same) in subst P equal (then_here (sym (cond-true _ _ _ same) ∙ done)))
    (λ other. then_others (sym (cond-false _ _ _ other) ∙ done))
    (cases_Bool (kind == wanted))

change_begins : (place : ℕ) (row : List ℕ) (f : RowField Change) → AreBytes row → change_in place row ≡ Ok f → Begins (change_bytes f.value) row f.rest
change_begins place [] f small done = absurd (cc)
change_begins place (sort ∷ row) f small done =
    let rest : AreBytes row = λ i. small (suc i) in
    let P : ℕ → Type 0 = λ n. Begins (change_bytes f.value) (n ∷ row) f.rest in
    by_byte sort 1 (put_in (place + 1) row) (if sort == 2 then removed_in (place + 1) row else Err (Bad place)) f P done
    (put_begins (place + 1) row f rest)
    (λ done. by_byte sort 2 (removed_in (place + 1) row) (Err (Bad place)) f P done (remove_begins (place + 1) row f rest) (λ done. absurd (cc)))

base_begins : (tag : List ℕ) (row rest : List ℕ) (c : RowField Content) → Begins (behind_1 tag) row rest → Begins (content_bytes c.value.kind c.value.body) rest c.rest
    → Begins (base_bytes (record { tag = tag; kind = c.value.kind; body = c.value.body })) row c.rest
base_begins tag row rest c first content = record {
  whole = first.whole ∙ ap (λ t. behind_1 tag ++ t) content.whole ∙ sym (append_assoc (behind_1 tag) (content_bytes c.value.kind c.value.body) c.rest);
  small = content.small;
}

remote_by : (tag : RowField (Option (List ℕ))) (o : Option (List ℕ)) (row : List ℕ) (f : RowField (Option Base)) → Begins (tag_bytes o) row tag.rest
    → remote_behind tag o ≡ Ok f → Begins (remote_bytes f.value) row f.rest
remote_by tag None row f begins done =
    let same : At None tag.place tag.rest ≡ f = cc in
    subst (λ (g : RowField (Option Base)). Begins (remote_bytes g.value) row g.rest) same begins
remote_by tag (Some text) row f begins done =
    let Doc : RowField Content → Base = λ c. record { tag = text; kind = c.value.kind; body = c.value.body } in
    let one = went (content_in 134217728 tag.place tag.rest) (λ (c : RowField Content). base_behind text c >>> (λ (b : RowField Base). Ok (At (Some b.value) b.place b.rest))) f done in
    let c = one.by in
    let content = content_begins 134217728 tag.place tag.rest c begins.small one.first in
    let made = one.after in
    let same : At (Some (Doc c)) c.place c.rest ≡ f = cc in
    subst (λ (g : RowField (Option Base)). Begins (remote_bytes g.value) row g.rest) same (base_begins text row tag.rest c begins content)

remote_begins : (place : ℕ) (row : List ℕ) (f : RowField (Option Base)) → AreBytes row → remote_in place row ≡ Ok f → Begins (remote_bytes f.value) row f.rest
remote_begins place row f small done =
    let one = went (meant_1_in optional_tag_meant place row) (λ (t : RowField (Option (List ℕ))). remote_behind t t.value) f done in
    let t = one.by in
    remote_by t t.value row f (tag_begins place row t small one.first) one.after

resolve_is : (byte : ℕ) (how : Resolve) → resolve_meant byte ≡ Some how → resolve_byte how ≡ byte
resolve_is byte how found =
    ⊎_elim
    (λ keep.
    let is : Some Keep ≡ Some how = sym (cond-true (byte == 1) _ _ keep) ∙ found in
    let same : Keep ≡ how = cc in
    ap resolve_byte (sym same) ∙ grind (arith, nat_tests, keep))
    (λ not_one.
    let later : (if byte == 2 then Some Drop else None) ≡ Some how = sym (cond-false (byte == 1) _ _ not_one) ∙ found in
    ⊎_elim
    (λ drop.
    let is : Some Drop ≡ Some how = sym (cond-true (byte == 2) _ _ drop) ∙ later in
    let same : Drop ≡ how = cc in
    ap resolve_byte (sym same) ∙ grind (arith, nat_tests, drop))
    (λ other. let none : None ≡ Some how = sym (cond-false (byte == 2) _ _ other) ∙ later in absurd (cc))
    (cases_Bool (byte == 2)))
    (cases_Bool (byte == 1))

-- ---- events

-- the row is the event's, behind the format and the number of its kind
abbrev IsRowOf : ℕ → List ℕ → Option Event → Type 0
IsRowOf kind row None = Unit {0}
IsRowOf kind row (Some event) = event_row event ≡ 1 ∷ kind ∷ row

last : (front row rest : List ℕ) → row ≡ front ++ rest → rest ≡ [] → front ≡ row
last front row rest whole none = sym (whole ∙ ap (λ r. front ++ r) none ∙ append-nil front)

connect_ok : (row : List ℕ) (o : Option Event) → AreBytes row → connect_reading row ≡ Ok o → IsRowOf 16 row o
connect_ok row o small done =
    let one = went (meant_2_in root_meant 2 row) (λ (r : RowField Root). meant_2_in bearer_meant r.place r.rest >>> (λ (t : RowField (List ℕ)). meant_2_in scopes_meant t.place t.rest >>> (λ (s : RowField (List Scope)). whole s.place s.rest (Some (Connect r.value t.value s.value))))) o done in
    let r = one.by in
    let root = root_begins 2 row r small one.first in
    let two = went (meant_2_in bearer_meant r.place r.rest) (λ (t : RowField (List ℕ)). meant_2_in scopes_meant t.place t.rest >>> (λ (s : RowField (List Scope)). whole s.place s.rest (Some (Connect r.value t.value s.value)))) o one.after in
    let t = two.by in
    let token = bearer_begins r.place r.rest t root.small two.first in
    let three = went (meant_2_in scopes_meant t.place t.rest) (λ (s : RowField (List Scope)). whole s.place s.rest (Some (Connect r.value t.value s.value))) o two.after in
    let s = three.by in
    let scopes = scopes_begin t.place t.rest s token.small three.first in
    let end = whole-ok s.place s.rest (Some (Connect r.value t.value s.value)) o three.after in
    let third = last (behind_2 (scopes_text s.value)) t.rest s.rest scopes.whole end.1 in
    subst (λ (o : Option Event). IsRowOf 16 row o) end.0
    (ap (λ l. 1 ∷ 16 ∷ l) (ap (λ l. behind_2 (root_text r.value) ++ (behind_2 t.value ++ l)) third
    ∙ ap (λ l. behind_2 (root_text r.value) ++ l) (sym token.whole) ∙ sym root.whole))

edit_ok : (row : List ℕ) (o : Option Event) → AreBytes row → edit_reading row ≡ Ok o → IsRowOf 17 row o
edit_ok row o small done =
    let one = went (meant_2_in document_meant 2 row) (λ (p : RowField Path). change_in p.place p.rest >>> (λ (c : RowField Change). whole c.place c.rest (Some (Edit p.value c.value)))) o done in
    let p = one.by in
    let path = document_begins 2 row p small one.first in
    let two = went (change_in p.place p.rest) (λ (c : RowField Change). whole c.place c.rest (Some (Edit p.value c.value))) o one.after in
    let c = two.by in
    let change = change_begins p.place p.rest c path.small two.first in
    let end = whole-ok c.place c.rest (Some (Edit p.value c.value)) o two.after in
    subst (λ (o : Option Event). IsRowOf 17 row o) end.0
    (ap (λ l. 1 ∷ 17 ∷ l) (ap (λ l. path_bytes p.value ++ l) (last (change_bytes c.value) p.rest c.rest change.whole end.1) ∙ sym path.whole))

-- a row of a document's path alone
path_alone : (row : List ℕ) (p : RowField Path) → Begins (path_bytes p.value) row p.rest → p.rest ≡ [] → path_bytes p.value ≡ row
path_alone row p path none = last (path_bytes p.value) row p.rest path.whole none

sent_ok : (row : List ℕ) (o : Option Event) → AreBytes row → document_event_reading (λ path. Sent path) row ≡ Ok o → IsRowOf 18 row o
sent_ok row o small done =
    let one = went (meant_2_in document_meant 2 row) (λ (p : RowField Path). whole p.place p.rest (Some (Sent p.value))) o done in
    let p = one.by in
    let end = whole-ok p.place p.rest (Some (Sent p.value)) o one.after in
    subst (λ (o : Option Event). IsRowOf 18 row o) end.0 (ap (λ l. 1 ∷ 18 ∷ l) (path_alone row p (document_begins 2 row p small one.first) end.1))

gone_ok : (row : List ℕ) (o : Option Event) → AreBytes row → document_event_reading (λ path. Gone path) row ≡ Ok o → IsRowOf 24 row o
gone_ok row o small done =
    let one = went (meant_2_in document_meant 2 row) (λ (p : RowField Path). whole p.place p.rest (Some (Gone p.value))) o done in
    let p = one.by in
    let end = whole-ok p.place p.rest (Some (Gone p.value)) o one.after in
    subst (λ (o : Option Event). IsRowOf 24 row o) end.0 (ap (λ l. 1 ∷ 24 ∷ l) (path_alone row p (document_begins 2 row p small one.first) end.1))

unsettled_ok : (row : List ℕ) (o : Option Event) → AreBytes row → unsettled_reading row ≡ Ok o → IsRowOf 26 row o
unsettled_ok row o small done =
    let one = went (meant_2_in path_meant 2 row) (λ (p : RowField Path). whole p.place p.rest (Some (Unsettled p.value))) o done in
    let p = one.by in
    let end = whole-ok p.place p.rest (Some (Unsettled p.value)) o one.after in
    subst (λ (o : Option Event). IsRowOf 26 row o) end.0 (ap (λ l. 1 ∷ 26 ∷ l) (path_alone row p (path_begins 2 row p small one.first) end.1))

-- a path's bytes, and what ends the row behind them
path_and : (row bytes : List ℕ) (p : RowField Path) → Begins (path_bytes p.value) row p.rest → bytes ≡ p.rest → path_bytes p.value ++ bytes ≡ row
path_and row bytes p path rest = ap (λ l. path_bytes p.value ++ l) rest ∙ sym path.whole

accepted_ok : (row : List ℕ) (o : Option Event) → AreBytes row → tag_event_reading (λ path tag. Accepted path tag) row ≡ Ok o → IsRowOf 19 row o
accepted_ok row o small done =
    let one = went (meant_2_in document_meant 2 row) (λ (p : RowField Path). meant_1_in optional_tag_meant p.place p.rest >>> (λ (t : RowField (Option (List ℕ))). whole t.place t.rest (Some (Accepted p.value t.value)))) o done in
    let p = one.by in
    let path = document_begins 2 row p small one.first in
    let two = went (meant_1_in optional_tag_meant p.place p.rest) (λ (t : RowField (Option (List ℕ))). whole t.place t.rest (Some (Accepted p.value t.value))) o one.after in
    let t = two.by in
    let tag = tag_begins p.place p.rest t path.small two.first in
    let end = whole-ok t.place t.rest (Some (Accepted p.value t.value)) o two.after in
    subst (λ (o : Option Event). IsRowOf 19 row o) end.0
    (ap (λ l. 1 ∷ 19 ∷ l) (path_and row (tag_bytes t.value) p path (last (tag_bytes t.value) p.rest t.rest tag.whole end.1)))

absorbed_ok : (row : List ℕ) (o : Option Event) → AreBytes row → tag_event_reading (λ path tag. Absorbed path tag) row ≡ Ok o → IsRowOf 20 row o
absorbed_ok row o small done =
    let one = went (meant_2_in document_meant 2 row) (λ (p : RowField Path). meant_1_in optional_tag_meant p.place p.rest >>> (λ (t : RowField (Option (List ℕ))). whole t.place t.rest (Some (Absorbed p.value t.value)))) o done in
    let p = one.by in
    let path = document_begins 2 row p small one.first in
    let two = went (meant_1_in optional_tag_meant p.place p.rest) (λ (t : RowField (Option (List ℕ))). whole t.place t.rest (Some (Absorbed p.value t.value))) o one.after in
    let t = two.by in
    let tag = tag_begins p.place p.rest t path.small two.first in
    let end = whole-ok t.place t.rest (Some (Absorbed p.value t.value)) o two.after in
    subst (λ (o : Option Event). IsRowOf 20 row o) end.0
    (ap (λ l. 1 ∷ 20 ∷ l) (path_and row (tag_bytes t.value) p path (last (tag_bytes t.value) p.rest t.rest tag.whole end.1)))

held_ok : (row : List ℕ) (o : Option Event) → AreBytes row → held_reading row ≡ Ok o → IsRowOf 21 row o
held_ok row o small done =
    let one = went (meant_2_in document_meant 2 row) (λ (p : RowField Path). u16_in p.place p.rest >>> (λ (n : RowField ℕ). whole n.place n.rest (Some (Held p.value n.value)))) o done in
    let p = one.by in
    let path = document_begins 2 row p small one.first in
    let two = went (u16_in p.place p.rest) (λ (n : RowField ℕ). whole n.place n.rest (Some (Held p.value n.value))) o one.after in
    let n = two.by in
    let status = u16_in-ok p.place p.rest n path.small two.first in
    let end = whole-ok n.place n.rest (Some (Held p.value n.value)) o two.after in
    subst (λ (o : Option Event). IsRowOf 21 row o) end.0
    (ap (λ l. 1 ∷ 21 ∷ l) (path_and row (to_be_bytes w16 n.value) p path (last (to_be_bytes w16 n.value) p.rest n.rest status.whole end.1)))

conflict_ok : (row : List ℕ) (o : Option Event) → AreBytes row → conflict_reading row ≡ Ok o → IsRowOf 22 row o
conflict_ok row o small done =
    let one = went (meant_2_in document_meant 2 row) (λ (p : RowField Path). remote_in p.place p.rest >>> (λ (b : RowField (Option Base)). whole b.place b.rest (Some (ConflictMade p.value b.value)))) o done in
    let p = one.by in
    let path = document_begins 2 row p small one.first in
    let two = went (remote_in p.place p.rest) (λ (b : RowField (Option Base)). whole b.place b.rest (Some (ConflictMade p.value b.value))) o one.after in
    let b = two.by in
    let remote = remote_begins p.place p.rest b path.small two.first in
    let end = whole-ok b.place b.rest (Some (ConflictMade p.value b.value)) o two.after in
    subst (λ (o : Option Event). IsRowOf 22 row o) end.0
    (ap (λ l. 1 ∷ 22 ∷ l) (path_and row (remote_bytes b.value) p path (last (remote_bytes b.value) p.rest b.rest remote.whole end.1)))

pulled_by : (row : List ℕ) (p : RowField Path) (rest : List ℕ) (o : Option (List ℕ)) (c : RowField Content) → Begins (path_bytes p.value) row p.rest
    → Begins (tag_bytes o) p.rest rest → Begins (content_bytes c.value.kind c.value.body) rest c.rest → c.rest ≡ []
    → IsRowOf 23 row (pulled_of p.value o c.value)
pulled_by row p rest None c path tag content none = tt
pulled_by row p rest (Some text) c path tag content none =
    let base = base_begins text p.rest rest c tag content in
    ap (λ l. 1 ∷ 23 ∷ l) (path_and row _ p path (last _ p.rest c.rest base.whole none))

pulled_ok : (row : List ℕ) (o : Option Event) → AreBytes row → pulled_reading row ≡ Ok o → IsRowOf 23 row o
pulled_ok row o small done =
    let one = went (meant_2_in document_meant 2 row) (λ (p : RowField Path). meant_1_in optional_tag_meant p.place p.rest >>> (λ (t : RowField (Option (List ℕ))). content_in 134217728 t.place t.rest >>> (λ (c : RowField Content). whole c.place c.rest (pulled_of p.value t.value c.value)))) o done in
    let p = one.by in
    let path = document_begins 2 row p small one.first in
    let two = went (meant_1_in optional_tag_meant p.place p.rest) (λ (t : RowField (Option (List ℕ))). content_in 134217728 t.place t.rest >>> (λ (c : RowField Content). whole c.place c.rest (pulled_of p.value t.value c.value))) o one.after in
    let t = two.by in
    let tag = tag_begins p.place p.rest t path.small two.first in
    let three = went (content_in 134217728 t.place t.rest) (λ (c : RowField Content). whole c.place c.rest (pulled_of p.value t.value c.value)) o two.after in
    let c = three.by in
    let content = content_begins 134217728 t.place t.rest c tag.small three.first in
    let end = whole-ok c.place c.rest (pulled_of p.value t.value c.value) o three.after in
    subst (λ (o : Option Event). IsRowOf 23 row o) end.0 (pulled_by row p t.rest t.value c path tag content end.1)

settled_by : (row : List ℕ) (p : RowField Path) (rest : List ℕ) (o : Option (List ℕ)) → Begins (path_bytes p.value) row p.rest
    → Begins (tag_bytes o) p.rest rest → rest ≡ [] → IsRowOf 25 row (settled_of p.value o)
settled_by row p rest None path tag none = tt
settled_by row p rest (Some text) path tag none = ap (λ l. 1 ∷ 25 ∷ l) (path_and row (behind_1 text) p path (last (behind_1 text) p.rest rest tag.whole none))

settled_ok : (row : List ℕ) (o : Option Event) → AreBytes row → settled_reading row ≡ Ok o → IsRowOf 25 row o
settled_ok row o small done =
    let one = went (meant_2_in path_meant 2 row) (λ (p : RowField Path). meant_1_in optional_tag_meant p.place p.rest >>> (λ (t : RowField (Option (List ℕ))). whole t.place t.rest (settled_of p.value t.value))) o done in
    let p = one.by in
    let path = path_begins 2 row p small one.first in
    let two = went (meant_1_in optional_tag_meant p.place p.rest) (λ (t : RowField (Option (List ℕ))). whole t.place t.rest (settled_of p.value t.value)) o one.after in
    let t = two.by in
    let tag = tag_begins p.place p.rest t path.small two.first in
    let end = whole-ok t.place t.rest (settled_of p.value t.value) o two.after in
    subst (λ (o : Option Event). IsRowOf 25 row o) end.0 (settled_by row p t.rest t.value path tag end.1)

resolved_ok : (row : List ℕ) (o : Option Event) → AreBytes row → resolved_reading row ≡ Ok o → IsRowOf 27 row o
resolved_ok row o small done =
    let one = went (u64_in 2 row) (λ (n : RowField ℕ). byte_meant resolve_meant n.place n.rest >>> (λ (h : RowField Resolve). whole h.place h.rest (Some (Resolved n.value h.value)))) o done in
    let n = one.by in
    let number = u64_in-ok 2 row n small one.first in
    let two = went (byte_meant resolve_meant n.place n.rest) (λ (h : RowField Resolve). whole h.place h.rest (Some (Resolved n.value h.value))) o one.after in
    let h = two.by in
    let how = byte_meant-ok resolve_meant n.place n.rest h two.first in
    let end = whole-ok h.place h.rest (Some (Resolved n.value h.value)) o two.after in
    let byte : resolve_byte h.value ∷ [] ≡ n.rest = ap (λ b. b ∷ []) (resolve_is how.byte h.value how.stands) ∙ sym (how.begins ∙ ap (λ r. how.byte ∷ r) end.1) in
    subst (λ (o : Option Event). IsRowOf 27 row o) end.0
    (ap (λ l. 1 ∷ 27 ∷ l) (ap (λ l. to_be_bytes w64 n.value ++ l) byte ∙ sym number.whole))

-- ---- by the number of the kind

of_kind_ok : (kind : ℕ) (row : List ℕ) (o : Option Event) → AreBytes row → event_of_kind kind row ≡ Ok o → IsRowOf kind row o
of_kind_ok kind row o small done =
    let Is : ℕ → Type 0 = λ k. IsRowOf k row o in
    by_byte kind 16 _ _ o Is done (connect_ok row o small)
    (λ done. by_byte kind 17 _ _ o Is done (edit_ok row o small)
    (λ done. by_byte kind 18 _ _ o Is done (sent_ok row o small)
    (λ done. by_byte kind 19 _ _ o Is done (accepted_ok row o small)
    (λ done. by_byte kind 20 _ _ o Is done (absorbed_ok row o small)
    (λ done. by_byte kind 21 _ _ o Is done (held_ok row o small)
    (λ done. by_byte kind 22 _ _ o Is done (conflict_ok row o small)
    (λ done. by_byte kind 23 _ _ o Is done (pulled_ok row o small)
    (λ done. by_byte kind 24 _ _ o Is done (gone_ok row o small)
    (λ done. by_byte kind 25 _ _ o Is done (settled_ok row o small)
    (λ done. by_byte kind 26 _ _ o Is done (unsettled_ok row o small)
    (λ done. by_byte kind 27 _ _ o Is done (resolved_ok row o small) (λ done. absurd (cc)))))))))))))

spelled : (kind : ℕ) (row : List ℕ) (o : Option Event) → IsRowOf kind row o → SpellsRow (1 ∷ kind ∷ row) o
spelled kind row None is = tt
spelled kind row (Some event) is = is

behind_ok : (row : List ℕ) (o : Option Event) → AreBytes row → event_behind row ≡ Ok o → SpellsRow (1 ∷ row) o
behind_ok [] o small done = absurd (cc)
behind_ok (kind ∷ row) o small done = spelled kind row o (of_kind_ok kind row o (λ i. small (suc i)) done)

-- a row that is read as an event is the event's row
pub event_ok : (row : List ℕ) (o : Option Event) → AreBytes row → event_reading row ≡ Ok o → SpellsRow row o
event_ok [] o small done = absurd (cc)
event_ok (format ∷ row) o small done =
    by_byte format 1 (event_behind row) (Err (Bad 0)) o (λ f. SpellsRow (f ∷ row) o) done (behind_ok row o (λ i. small (suc i))) (λ done. absurd (cc))
