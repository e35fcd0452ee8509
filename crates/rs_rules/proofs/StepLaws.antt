-- Documents, versions, scopes and contents after one more entry.
use Rattle.std.proofs.Common.{◌≡◌, ℕ, ◌+◌, true, false, cond, List, sym, ap, ◌∙◌, ⊎_elim}
use Rattle.std.proofs.Math.Path.{fun_ext}
use Rattle.std.specs.Prelude.{if◌then◌else◌}
use Rattle.std.proofs.lemmas.Bool.{cases_Bool, cond-true, cond-false}
use Rattle.rs_path.specs.Paths.{Path}
use Rattle.rs_path.specs.declared.log_entry.LogEntry.{LogEntry}
use Rattle.rs_record.specs.declared.records.Record.{Record}
use Rattle.rs_rules.specs.declared.placed.Placed.{Placed}
use Rattle.rs_rules.specs.Histories.{History, len, with_entry}
use Rattle.rs_rules.specs.Documents.{docs, docs_after, doc_in}
use Rattle.rs_rules.specs.Versions.{writes_below, last_below, is_there, folder_version, doc_version, ver}
use Rattle.rs_rules.specs.Tokens.{scopes_after, scopes_of}
use Rattle.rs_rules.specs.Contents.{Contents, contents, version_after, contents_after}
use Rattle.rs_rules.proofs.Replay.{replay-push}
use Rattle.rs_rules.proofs.DocLemmas.{is_there-quiet}

pub docs-with_entry : (h : History) (e : LogEntry Record) → docs (with_entry h e) ≡ docs_after (len h + 1) e.what (docs h)
docs-with_entry h e = replay-push docs_after h.base.cut h.base.docs h.entries e

pub last_below-with_entry : (h : History) (e : LogEntry Record) (f : Path) → last_below (with_entry h e) f ≡ (if writes_below f e.what then len h + 1 else last_below h f)
last_below-with_entry h e f =
    replay-push (λ n what last. if writes_below f what then n else last) h.base.cut (h.base.versions f) h.entries e

pub scopes_of-with_entry : (h : History) (e : LogEntry Record) (t : List ℕ) → scopes_of (with_entry h e) t ≡ scopes_after t (len h + 1) e.what (scopes_of h t)
scopes_of-with_entry h e t = replay-push (scopes_after t) h.base.cut (h.base.tokens t) h.entries e

-- ---- versions

is_there-with_entry : (h : History) (e : LogEntry Record) (f : Path) → is_there f (docs (with_entry h e)) ≡ is_there f (docs_after (len h + 1) e.what (docs h))
is_there-with_entry h e f = ap (is_there f) (docs-with_entry h e)

-- a record below the folder gives its number to the folder, if that is still there
pub folder_version-written : (h : History) (e : LogEntry Record) (f : Path) → writes_below f e.what ≡ true
    → folder_version (with_entry h e) f ≡ (if is_there f (docs_after (len h + 1) e.what (docs h)) then len h + 1 else 0)
folder_version-written h e f hit =
    ap (λ b. cond b (last_below (with_entry h e) f) 0) (is_there-with_entry h e f)
    ∙ ap (λ v. cond (is_there f (docs_after (len h + 1) e.what (docs h))) v 0)
    (last_below-with_entry h e f ∙ cond-true (writes_below f e.what) (len h + 1) (last_below h f) hit)

-- any other record leaves the folder's version
pub folder_version-quiet : (h : History) (e : LogEntry Record) (f : Path) → writes_below f e.what ≡ false
    → folder_version (with_entry h e) f ≡ folder_version h f
folder_version-quiet h e f clear =
    ap (λ b. cond b (last_below (with_entry h e) f) 0) (is_there-with_entry h e f ∙ is_there-quiet f (len h + 1) e.what (docs h) clear)
    ∙ ap (λ v. cond (is_there f (docs h)) v 0)
    (last_below-with_entry h e f ∙ cond-false (writes_below f e.what) (len h + 1) (last_below h f) clear)

folder_step : (h : History) (e : LogEntry Record) (f : Path)
    → folder_version (with_entry h e) f
    ≡ (if writes_below f e.what then (if is_there f (docs_after (len h + 1) e.what (docs h)) then len h + 1 else 0) else folder_version h f)
folder_step h e f =
    ⊎_elim
    (λ hit. folder_version-written h e f hit ∙ sym (cond-true (writes_below f e.what) _ _ hit))
    (λ clear. folder_version-quiet h e f clear ∙ sym (cond-false (writes_below f e.what) _ _ clear))
    (cases_Bool (writes_below f e.what))

pub ver-with_entry : (h : History) (e : LogEntry Record) (p : Path)
    → ver (with_entry h e) p ≡ version_after (len h + 1) e.what (docs_after (len h + 1) e.what (docs h)) p (ver h p)
ver-with_entry h e p =
    ⊎_elim
    (λ folder. cond-true p.folder _ _ folder ∙ folder_step h e p
    ∙ ap (λ old. cond (writes_below p e.what) (cond (is_there p (docs_after (len h + 1) e.what (docs h))) (len h + 1) 0) old) (sym (cond-true p.folder (folder_version h p) _ folder))
    ∙ sym (cond-true p.folder _ _ folder))
    (λ document. cond-false p.folder _ _ document ∙ ap (λ ds. doc_version (doc_in p ds)) (docs-with_entry h e) ∙ sym (cond-false p.folder _ _ document))
    (cases_Bool p.folder)

-- what a tree knows after one more entry follows from what it knew before
pub contents-with_entry : (h : History) (e : LogEntry Record) → contents (with_entry h e) ≡ contents_after (len h + 1) e.what (contents h)
contents-with_entry h e =
    let make : List Placed → (Path → ℕ) → Contents = λ ds v. record { docs = ds; version = v } in
    ap (λ ds. make ds (λ p. ver (with_entry h e) p)) (docs-with_entry h e)
    ∙ ap (make (docs_after (len h + 1) e.what (docs h))) (fun_ext (λ p. ver-with_entry h e p))
