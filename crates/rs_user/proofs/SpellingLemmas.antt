-- Rows that are a history's, and are opened as it.
use Rattle.std.proofs.Common.{◌≡◌, ℕ, ◌+◌, ◌<◌, true, cond, List, [], ◌∷◌, ◌++◌, length, map, Option, Some, None, Result, Ok, Err, suc, refl, sym, ap, ◌∙◌, subst, arith, append-nil, append_assoc, length-append}
use Rattle.std.specs.Prelude.{nat_lt}
use Rattle.std.proofs.lemmas.List.{map-append}
use Rattle.std.proofs.lemmas.Bool.{and_from}
use Rattle.std.proofs.lemmas.Bool.Decides.{nat_tests}
use Rattle.rs_path.specs.Paths.{Path}
use Rattle.rs_path.specs.declared.log_entry.LogEntry.{LogEntry}
use Rattle.rs_face.specs.Rows.{with_rows}
use Rattle.rs_record.specs.declared.records.Record.{Record}
use Rattle.rs_record.specs.Rows.{spelling}
use Rattle.rs_record.specs.RowReadings.{record_reading}
use Rattle.rs_row.specs.declared.open_fault.OpenFault.{OpenFault}
use Rattle.rs_row.specs.declared.open_fault.OpenFault.TheVariants.{Unlawful}
use Rattle.rs_rules.specs.Limits.{max_len}
use Rattle.rs_rules.specs.Histories.{History, start, empty_base, len, with_entry, with_entries, replay}
use Rattle.rs_rules.specs.Documents.{docs, docs_after, doc_in}
use Rattle.rs_rules.specs.Versions.{writes_below, is_there, last_below, doc_version}
use Rattle.rs_rules.specs.Tokens.{scopes_of, scopes_after}
use Rattle.rs_rules.specs.Snapshots.{snapshot}
use Rattle.rs_rules.specs.Lawful.{may_follow, AllFollow, IsLawful}
use Rattle.rs_user.specs.Openings.{may_be_next, with_reading, if_opened, opening_from, rows_of, by_nobody, AreRows, AreToldRows}

-- ---- who made the entries isn't looked at

replay_nobody : {S : Type 0} (step : ℕ → Record → S → S) (n : ℕ) (s : S) (es : List (LogEntry Record))
    → replay step n s (map (λ (e : LogEntry Record). record { who = 0; what = e.what }) es) ≡ replay step n s es
replay_nobody step n s [] = refl
replay_nobody step n s (e ∷ es) = replay_nobody step (n + 1) (step (n + 1) e.what s) es

length_nobody : (es : List (LogEntry Record)) → length {A = LogEntry Record} (map (λ (e : LogEntry Record). record { who = 0; what = e.what }) es) ≡ length es
length_nobody [] = refl
length_nobody (e ∷ es) = ap suc (length_nobody es)

snapshot_nobody : (h : History) → snapshot (by_nobody h) ≡ snapshot h
snapshot_nobody h =
    let documents : docs (by_nobody h) ≡ docs h = replay_nobody docs_after h.base.cut h.base.docs h.entries in
    let last : (path : Path) → last_below (by_nobody h) path ≡ last_below h path =
    (λ path. replay_nobody (λ n what last. cond (writes_below path what) n last) h.base.cut (h.base.versions path) h.entries) in
    let scopes : (token : List ℕ) → scopes_of (by_nobody h) token ≡ scopes_of h token =
    (λ token. replay_nobody (scopes_after token) h.base.cut (h.base.tokens token) h.entries) in
    λ i. record {
      len = h.base.cut + length_nobody h.entries i;
      contents = record {
        docs = documents i;
        version = λ path. cond path.folder (cond (is_there path (documents i)) (last path i) 0) (doc_version (doc_in path (documents i)));
      };
      scopes = λ token. scopes token i;
    }

-- one entry more
pub nobody_more : (h : History) (who : ℕ) (what : Record) → with_entry (by_nobody h) (record { who = 0; what = what }) ≡ by_nobody (with_entry h (record { who = who; what = what }))
nobody_more h who what =
    ap (λ es. record { base = h.base; entries = es })
    (sym (map-append (λ (e : LogEntry Record). record { who = 0; what = e.what }) h.entries (record { who = who; what = what } ∷ [])))

-- ---- a lawful history's last entry may be next

last_follows : (h : History) (es : List (LogEntry Record)) (e : LogEntry Record) → AllFollow h (es ++ e ∷ []) → may_follow (snapshot (with_entries h es)) e.what ≡ true
last_follows h [] e follow =
    subst (λ (x : History). may_follow (snapshot x) e.what ≡ true) (ap (λ es. record { base = h.base; entries = es }) (sym (append-nil h.entries))) follow.0
last_follows h (x ∷ es) e follow =
    subst (λ (l : List (LogEntry Record)). may_follow (snapshot (record { base = h.base; entries = l })) e.what ≡ true) (append_assoc h.entries (x ∷ []) es)
    (last_follows (with_entry h x) es e follow.1)

last_may_be : (h : History) (e : LogEntry Record) → IsLawful (with_entry h e) → may_be_next (by_nobody h) e.what ≡ true
last_may_be h e lawful =
    let may : may_follow (snapshot h) e.what ≡ true = last_follows (start h.base) h.entries e lawful.each in
    let same = snapshot_nobody h in
    let count = length-append h.entries (e ∷ []) in
    let room : len h < max_len = omega (arith, lawful.few, count) in
    let fits : nat_lt (len h) max_len ≡ true = grind (arith, nat_tests, room) in
    and_from _ _ (ap (λ s. nat_lt s.len max_len) same ∙ fits) (ap (λ s. may_follow s e.what) same ∙ may)

-- ---- one row more

history_or : History → Result History OpenFault → History
history_or other (Ok h) = h
history_or other (Err fault) = other

bind_more : (f g : History → Result History OpenFault) (first : Result History OpenFault) (now after : History)
    → ((x : History) → f x ≡ Ok now → g x ≡ Ok after) → if_opened first f ≡ Ok now → if_opened first g ≡ Ok after
bind_more f g (Ok x) now after more is = more x is
bind_more f g (Err fault) now after more is = cc

pub opening_more : (index : ℕ) (h now : History) (rows : List (List ℕ)) (row : List ℕ) (what : Record) → opening_from index h rows ≡ Ok now
    → record_reading row ≡ Ok what → may_be_next now what ≡ true
    → opening_from index h (rows ++ row ∷ []) ≡ Ok (with_entry now (record { who = 0; what = what }))
unfolding history_or
opening_more index h now [] row what is reads may =
    let same : now ≡ h = sym (ap (history_or h) is) in
    ap (λ reading. if_opened (with_reading index h reading) (λ x. opening_from (index + 1) x [])) reads
    ∙ subst (λ (x : History). if_opened (with_reading index x (Ok what)) (λ y. opening_from (index + 1) y []) ≡ Ok (with_entry now (record { who = 0; what = what }))) same
    (ap (λ b. if_opened (cond b (Ok (with_entry now (record { who = 0; what = what }))) (Err (Unlawful index))) (λ y. opening_from (index + 1) y [])) may)
opening_more index h now (first ∷ rows) row what is reads may =
    bind_more (λ x. opening_from (index + 1) x rows) (λ x. opening_from (index + 1) x (rows ++ row ∷ [])) (with_reading index h (record_reading first))
    now (with_entry now (record { who = 0; what = what })) (λ x same. opening_more (index + 1) x now rows row what same reads may) is

pub rows_more : (h : History) (who : ℕ) (what : Record) → rows_of (with_entry h (record { who = who; what = what })) ≡ rows_of h ++ spelling what ∷ []
rows_more h who what = map-append (λ (e : LogEntry Record). spelling e.what) h.entries (record { who = who; what = what } ∷ [])

-- rows of a history, and the row of one record more, which is read as the record
are_more : (rows : List (List ℕ)) (h : History) (who : ℕ) (what : Record) → record_reading (spelling what) ≡ Ok what
    → IsLawful (with_entry h (record { who = who; what = what })) → AreRows rows h
    → AreRows (rows ++ spelling what ∷ []) (with_entry h (record { who = who; what = what }))
are_more rows h who what back lawful are = (
  ap (λ kept. kept ++ spelling what ∷ []) are.0 ∙ sym (rows_more h who what),
  opening_more 0 (start empty_base) (by_nobody h) rows (spelling what) what are.1 back (last_may_be h (record { who = who; what = what }) lawful)
      ∙ ap Ok (nobody_more h who what),
)

pub spells_more : (old new : Option (List (List ℕ))) (h : History) (who : ℕ) (what : Record) → new ≡ with_rows old (spelling what ∷ [])
    → record_reading (spelling what) ≡ Ok what → IsLawful (with_entry h (record { who = who; what = what })) → AreToldRows old h
    → AreToldRows new (with_entry h (record { who = who; what = what }))
spells_more None new h who what is back lawful spells = subst (λ told. AreToldRows told (with_entry h (record { who = who; what = what }))) (sym is) spells
spells_more (Some rows) new h who what is back lawful spells =
    subst (λ told. AreToldRows told (with_entry h (record { who = who; what = what }))) (sym is) (are_more rows h who what back lawful spells)
