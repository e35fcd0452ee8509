-- What one write does to the versions of all paths.
use Rattle.std.proofs.Common.{◌≡◌, ◌≢◌, ℕ, ◌+◌, Bool, true, false, cond, List, Option, refl, sym, ap, ◌∙◌, ⊎_elim}
use Rattle.std.proofs.lemmas.Bool.{cases_Bool, cond-true, cond-false, and_parts}
use Rattle.rs_path.specs.Paths.{Path}
use Rattle.rs_path.specs.Below.{is_below, is_inside}
use Rattle.rs_path.specs.declared.log_entry.LogEntry.{LogEntry}
use Rattle.rs_record.specs.declared.records.Record.TheVariants.{Put, Remove}
use Rattle.rs_record.specs.declared.records.Record.{Record}
use Rattle.rs_rules.specs.Histories.{History, len, with_entry}
use Rattle.rs_rules.specs.Documents.{docs, docs_after, doc_in}
use Rattle.rs_rules.specs.Versions.{writes_below, is_there, folder_version, doc_version, ver}
use Rattle.rs_rules.specs.Laws.{IsVersionStep}
use Rattle.rs_rules.proofs.DocLemmas.{doc_in-put, doc_in-put_other, doc_in-others, doc_in-others_other}
use Rattle.rs_rules.proofs.StepLaws.{docs-with_entry, ver-with_entry}

-- a write of the document at p, by what it does to the documents
module _ (h : History) (e : LogEntry Record) (p : Path) (put : Bool)
    (writes : (q : Path) → writes_below q e.what ≡ is_below q p)
    (here : doc_version (doc_in p (docs_after (len h + 1) e.what (docs h))) ≡ cond put (len h + 1) 0)
    (elsewhere : (q : Path) → q ≢ p → doc_in q (docs_after (len h + 1) e.what (docs h)) ≡ doc_in q (docs h)) where
  above : (q : Path) → is_below q p ≡ true → ver (with_entry h e) q ≡ cond (is_there q (docs_after (len h + 1) e.what (docs h))) (len h + 1) 0
  above q below =
      ver-with_entry h e q ∙ cond-true q.folder _ _ (and_parts q.folder (is_inside q.names p.names) below).0
      ∙ cond-true (writes_below q e.what) _ _ (writes q ∙ below)

  other_folder : (q : Path) → is_below q p ≡ false → q.folder ≡ true → ver (with_entry h e) q ≡ ver h q
  other_folder q clear folder =
      ver-with_entry h e q ∙ cond-true q.folder _ _ folder ∙ cond-false (writes_below q e.what) _ _ (writes q ∙ clear)

  other_document : (q : Path) → q ≢ p → q.folder ≡ false → ver (with_entry h e) q ≡ ver h q
  other_document q other document =
      ver-with_entry h e q ∙ cond-false q.folder _ _ document ∙ ap doc_version (elsewhere q other)
      ∙ sym (cond-false q.folder (folder_version h q) (doc_version (doc_in q (docs h))) document)

  version_step : p.folder ≡ false → IsVersionStep h (with_entry h e) (len h + 1) p put
  version_step document = record {
    document = ver-with_entry h e p ∙ cond-false p.folder _ _ document ∙ here;
    left = λ q below there. above q below ∙ cond-true _ _ _ (sym (ap (is_there q) (docs-with_entry h e)) ∙ there);
    gone = λ q below there. above q below ∙ cond-false _ _ _ (sym (ap (is_there q) (docs-with_entry h e)) ∙ there);
    others = λ q clear other. ⊎_elim (other_folder q clear) (other_document q other) (cases_Bool q.folder);
  }

pub version_put : (h : History) (who : ℕ) (p : Path) (k b : List ℕ) (w : Option (List ℕ)) → p.folder ≡ false
    → IsVersionStep h (with_entry h (record { who = who; what = Put p k b w })) (len h + 1) p true
version_put h who p k b w document =
    version_step h (record { who = who; what = Put p k b w }) p true (λ q. refl)
    (ap doc_version (doc_in-put (len h + 1) p k b (docs h)))
    (λ q other. doc_in-put_other (len h + 1) p q k b (docs h) (λ same. other (sym same)))
    document

pub version_remove : (h : History) (who : ℕ) (p : Path) (w : Option (List ℕ)) → p.folder ≡ false
    → IsVersionStep h (with_entry h (record { who = who; what = Remove p w })) (len h + 1) p false
version_remove h who p w document =
    version_step h (record { who = who; what = Remove p w }) p false (λ q. refl)
    (ap doc_version (doc_in-others p (docs h)))
    (λ q other. doc_in-others_other p q (docs h) (λ same. other (sym same)))
    document
