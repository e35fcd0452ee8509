-- What holds of the documents of every lawful history.
use Rattle.std.proofs.Common.{◌≡◌, ℕ, ◌+◌, ◌*◌, ◌^◌, ◌<◌, ◌≤◌, Bool, true, not, ◌&&◌, List, [], ◌∷◌, ◌++◌, length, Option, Some, None, arith, refl, sym, ap, ◌∙◌, ⊎_elim, filter, leb-true}
use Rattle.std.specs.Prelude.{nat_le, IsTrue, option_map}
use Rattle.std.specs.List.{list_all}
use Rattle.std.proofs.lemmas.Bool.{cases_Bool, cond_both, and_parts, and_from, true≢false}
use Rattle.std.proofs.lemmas.Bool.Decides.{nat_tests}
use Rattle.std.proofs.lemmas.List.Folds.{list_all-append}
use Rattle.std.proofs.lemmas.List.Sums.{sum_by-cons, sum_by_push}
use Rattle.rs_path.specs.Limits.{max_body, max_plain_body}
use Rattle.rs_path.specs.Paths.{Path, same_path}
use Rattle.rs_path.specs.declared.log_entry.LogEntry.{LogEntry}
use Rattle.rs_record.specs.declared.records.Record.{Record}
use Rattle.rs_record.specs.declared.records.Record.TheVariants.{Put, Remove, Grant, Revoke}
use Rattle.rs_record.specs.Records.{body_limit}
use Rattle.rs_rules.specs.declared.placed.Placed.{Placed}
use Rattle.rs_rules.specs.Limits.{max_len}
use Rattle.rs_rules.specs.Histories.{History, len, with_entry}
use Rattle.rs_rules.specs.Documents.{others, placed_document, docs, docs_after, doc_in, live_in}
use Rattle.rs_rules.specs.Versions.{doc_version, folder_version, ver}
use Rattle.rs_rules.specs.Snapshots.{snapshot}
use Rattle.rs_rules.specs.Lawful.{may_follow, IsLawful}
use Rattle.rs_rules.specs.Sound.{are_distinct, AreDistinct, are_documents}
use Rattle.rs_rules.proofs.FindLemmas.{all-filter, all-filter_itself}
use Rattle.rs_rules.proofs.Replay.{len-with_entry}
use Rattle.rs_rules.proofs.DocLemmas.{same_itself, same_from}
use Rattle.rs_rules.proofs.StepLaws.{docs-with_entry}
use Rattle.rs_rules.proofs.PointLaws.{folder_version-le}
use Rattle.rs_rules.proofs.LawfulLaws.{along_lawful, versions-lawful}

-- ---- a test that the documents pass

push-all : (test : Placed → Bool) (ds : List Placed) (d : Placed) → list_all test ds ≡ true → test d ≡ true → list_all test (ds ++ d ∷ []) ≡ true
push-all test ds d each last =
    list_all-append test ds (d ∷ []) ∙ and_from (list_all test ds) (test d && true) each (and_from (test d) true last refl)

-- ---- versions

version-more : (n : ℕ) (ds : List Placed) → list_all (λ (d : Placed). nat_le d.doc.version n) ds ≡ true → list_all (λ (d : Placed). nat_le d.doc.version (n + 1)) ds ≡ true
version-more n [] each = refl
version-more n (d ∷ ds) each =
    let parts = and_parts (nat_le d.doc.version n) (list_all (λ (e : Placed). nat_le e.doc.version n) ds) each in
    and_from _ _ (raised d.doc.version n parts.0) (version-more n ds parts.1)
  where
    raised : (v n : ℕ) → nat_le v n ≡ true → nat_le v (n + 1) ≡ true
    raised v n low = grind (arith, nat_tests)

at_most : (n : ℕ) → nat_le n n ≡ true
at_most n = grind (arith, nat_tests)

version-after : (n : ℕ) (r : Record) (ds : List Placed) → list_all (λ (d : Placed). nat_le d.doc.version n) ds ≡ true
    → list_all (λ (d : Placed). nat_le d.doc.version (n + 1)) (docs_after (n + 1) r ds) ≡ true
version-after n (Put p k b w) ds each =
    let test : Placed → Bool = λ d. nat_le d.doc.version (n + 1) in
    push-all test (others p ds) (placed_document (n + 1) p k b) (all-filter (λ (d : Placed). not (same_path p d.path)) test ds (version-more n ds each)) (at_most (n + 1))
version-after n (Remove p w) ds each =
    let test : Placed → Bool = λ d. nat_le d.doc.version (n + 1) in
    all-filter (λ (d : Placed). not (same_path p d.path)) test ds (version-more n ds each)
version-after n (Grant t s) ds each = version-more n ds each
version-after n (Revoke t) ds each = version-more n ds each

versions-within : (h : History) → IsLawful h → list_all (λ (d : Placed). nat_le d.doc.version (len h)) (docs h) ≡ true
versions-within =
    along_lawful (λ h. list_all (λ (d : Placed). nat_le d.doc.version (len h)) (docs h) ≡ true)
    (λ h e now may. within h e now) refl
  where
    within : (h : History) (e : LogEntry Record) → list_all (λ (d : Placed). nat_le d.doc.version (len h)) (docs h) ≡ true
        → list_all (λ (d : Placed). nat_le d.doc.version (len (with_entry h e))) (docs (with_entry h e)) ≡ true
    within h e now =
        ap (λ n. list_all (λ (d : Placed). nat_le d.doc.version n) (docs (with_entry h e))) (len-with_entry h e)
        ∙ ap (list_all (λ (d : Placed). nat_le d.doc.version (len h + 1))) (docs-with_entry h e)
        ∙ version-after (len h) e.what (docs h) now

doc_version-within : (n : ℕ) (p : Path) (ds : List Placed) → list_all (λ (d : Placed). nat_le d.doc.version n) ds ≡ true → doc_version (doc_in p ds) ≤ n
doc_version-within n p [] each = omega arith
doc_version-within n p (d ∷ ds) each =
    let parts = and_parts (nat_le d.doc.version n) (list_all (λ (e : Placed). nat_le e.doc.version n) ds) each in
    cond_both (same_path p d.path) (Some d) _ (λ (o : Option Placed). doc_version (option_map (λ (e : Placed). e.doc) o) ≤ n)
    (λ here. leb-true _ _ parts.0) (λ other. doc_version-within n p ds parts.1)

-- no version is above the length
pub ver-le : (h : History) (p : Path) → IsLawful h → ver h p ≤ len h
ver-le h p law =
    cond_both p.folder (folder_version h p) (doc_version (doc_in p (docs h))) (λ v. v ≤ len h)
    (λ folder. folder_version-le h p (versions-lawful h law))
    (λ document. doc_version-within (len h) p (docs h) (versions-within h law))

-- ---- distinct paths

distinct-filter : (test : Placed → Bool) (ds : List Placed) → are_distinct ds ≡ true → are_distinct (filter test ds) ≡ true
distinct-filter test [] each = refl
distinct-filter test (d ∷ ds) each =
    let parts = and_parts (list_all (λ (e : Placed). not (same_path d.path e.path)) ds) (are_distinct ds) each in
    let rest = distinct-filter test ds parts.1 in
    cond_both (test d) (d ∷ filter test ds) (filter test ds) (λ l. are_distinct l ≡ true)
    (λ kept. and_from _ _ (all-filter test (λ (e : Placed). not (same_path d.path e.path)) ds parts.0) rest)
    (λ dropped. rest)

swapped : (p q : Path) → not (same_path p q) ≡ true → not (same_path q p) ≡ true
swapped p q other =
    ⊎_elim
    (λ same. absurd (true≢false (sym other ∙ ap not (ap (λ r. same_path r q) (sym (same_from q p same)) ∙ same_itself q))))
    (λ apart. ap not apart)
    (cases_Bool (same_path q p))

distinct-push : (ds : List Placed) (d : Placed) → list_all (λ (e : Placed). not (same_path d.path e.path)) ds ≡ true → are_distinct ds ≡ true
    → are_distinct (ds ++ d ∷ []) ≡ true
distinct-push [] d apart each = refl
distinct-push (e ∷ ds) d apart each =
    let away = and_parts (not (same_path d.path e.path)) (list_all (λ (f : Placed). not (same_path d.path f.path)) ds) apart in
    let parts = and_parts (list_all (λ (f : Placed). not (same_path e.path f.path)) ds) (are_distinct ds) each in
    and_from _ _ (push-all (λ (f : Placed). not (same_path e.path f.path)) ds d parts.0 (swapped d.path e.path away.0)) (distinct-push ds d away.1 parts.1)

pub distinct-after : (n : ℕ) (r : Record) (ds : List Placed) → are_distinct ds ≡ true → are_distinct (docs_after n r ds) ≡ true
distinct-after n (Put p k b w) ds each =
    distinct-push (others p ds) (placed_document n p k b) (all-filter_itself (λ (d : Placed). not (same_path p d.path)) ds) (distinct-filter (λ (d : Placed). not (same_path p d.path)) ds each)
distinct-after n (Remove p w) ds each = distinct-filter (λ (d : Placed). not (same_path p d.path)) ds each
distinct-after n (Grant t s) ds each = each
distinct-after n (Revoke t) ds each = each

-- no path has two documents
pub distinct-lawful : (h : History) → IsLawful h → AreDistinct (docs h)
distinct-lawful =
    along_lawful (λ h. are_distinct (docs h) ≡ true)
    (λ h e now may. ap are_distinct (docs-with_entry h e) ∙ distinct-after (len h + 1) e.what (docs h) now) refl

-- ---- paths of documents

documents-after : (h : History) (n : ℕ) (r : Record) (ds : List Placed) → are_documents ds ≡ true → may_follow (snapshot h) r ≡ true → are_documents (docs_after n r ds) ≡ true
documents-after h n (Put p k b w) ds each may =
    let test : Placed → Bool = λ d. not d.path.folder in
    push-all test (others p ds) (placed_document n p k b) (all-filter (λ (d : Placed). not (same_path p d.path)) test ds each) (and_parts (not p.folder) _ may).0
documents-after h n (Remove p w) ds each may = all-filter (λ (d : Placed). not (same_path p d.path)) (λ (d : Placed). not d.path.folder) ds each
documents-after h n (Grant t s) ds each may = each
documents-after h n (Revoke t) ds each may = each

-- each document stands at the path of a document
pub documents-lawful : (h : History) → IsLawful h → are_documents (docs h) ≡ true
documents-lawful =
    along_lawful (λ h. are_documents (docs h) ≡ true)
    (λ h e now may. ap are_documents (docs-with_entry h e) ∙ documents-after h (len h + 1) e.what (docs h) now (from may)) refl
  where
    from : {b : Bool} → IsTrue b → b ≡ true
    from yes_it_is = yes_it_is

-- ---- the sum of the lengths of the bodies

live-others : (p : Path) (ds : List Placed) → live_in (others p ds) ≤ live_in ds
live-others p [] = omega arith
live-others p (d ∷ ds) =
    let rest : live_in (others p ds) ≤ live_in ds = live-others p ds in
    let all = sum_by-cons (λ (e : Placed). length e.doc.body) d ds in
    let kept = sum_by-cons (λ (e : Placed). length e.doc.body) d (others p ds) in
    cond_both (not (same_path p d.path)) (d ∷ others p ds) (others p ds) (λ l. live_in l ≤ live_in (d ∷ ds))
    (λ other. omega (arith, rest, all, kept)) (λ same. omega (arith, rest, all))

short-body : (b : List ℕ) (w : Option (List ℕ)) → nat_le (length b) (body_limit w) ≡ true → length b ≤ max_body
short-body b None short = let low : length b ≤ max_plain_body = leb-true _ _ short in omega (arith, low)
short-body b (Some t) short = leb-true _ _ short

live-after : (h : History) (n : ℕ) (r : Record) (ds : List Placed) → may_follow (snapshot h) r ≡ true → live_in (docs_after n r ds) ≤ live_in ds + max_body
live-after h n (Put p k b w) ds may =
    let short : length b ≤ max_body = short-body b w (and_parts (nat_le (length b) (body_limit w)) _ (and_parts (not p.folder) _ may).1).0 in
    let kept = live-others p ds in
    let all = sum_by_push (λ (e : Placed). length e.doc.body) (others p ds) (placed_document n p k b) in
    omega (arith, short, kept, all)
live-after h n (Remove p w) ds may = let kept = live-others p ds in omega (arith, kept)
live-after h n (Grant t s) ds may = omega arith
live-after h n (Revoke t) ds may = omega arith

live-len : (h : History) → IsLawful h → live_in (docs h) ≤ len h * max_body
live-len =
    along_lawful (λ h. live_in (docs h) ≤ len h * max_body) step (omega arith)
  where
    step : (h : History) (e : LogEntry Record) → live_in (docs h) ≤ len h * max_body → IsTrue (may_follow (snapshot h) e.what)
        → live_in (docs (with_entry h e)) ≤ len (with_entry h e) * max_body
    step h e now may =
        let after : live_in (docs_after (len h + 1) e.what (docs h)) ≤ live_in (docs h) + max_body = live-after h (len h + 1) e.what (docs h) may in
        let same : live_in (docs (with_entry h e)) ≡ live_in (docs_after (len h + 1) e.what (docs h)) = ap live_in (docs-with_entry h e) in
        let long : len (with_entry h e) ≡ len h + 1 = len-with_entry h e in
        rw long (omega (arith, now, after, same))

-- the bodies of a lawful history and one more body fit into 64 bits
pub live-room : (h : History) (b : List ℕ) → IsLawful h → length b ≤ max_body → live_in (docs h) + length b < 2 ^ 64
live-room h b law short =
    let sum = live-len h law in
    let few : len h ≤ max_len = law.few in
    omega (arith, sum, few, short)
