-- A settled history shows what the whole one shows.
use Rattle.std.proofs.Common.{◌≡◌, ℕ, ◌+◌, ◌-◌, ◌≤◌, Bool, true, false, cond, List, [], ◌∷◌, ◌++◌, length, take, drop, Option, arith, refl, sym, ap, ◌∙◌, subst, ⊎_elim, length-append, length-take, take-add}
use Rattle.std.proofs.Math.Path.{fun_ext}
use Rattle.std.specs.Prelude.{IsTrue}
use Rattle.std.proofs.lemmas.Bool.{cases_Bool}
use Rattle.rs_path.specs.Paths.{Path}
use Rattle.rs_path.specs.declared.log_entry.LogEntry.{LogEntry}
use Rattle.rs_scope.specs.declared.scope.Scope.{Scope}
use Rattle.rs_record.specs.declared.records.Record.{Record}
use Rattle.rs_rules.specs.declared.placed.Placed.{Placed}
use Rattle.rs_rules.specs.Histories.{History, len, with_entries, up_to, IsPoint}
use Rattle.rs_rules.specs.Documents.{docs, doc_in}
use Rattle.rs_rules.specs.Versions.{last_below, is_there, folder_version, doc_version, ver}
use Rattle.rs_rules.specs.Tokens.{scopes_of, scopes_after}
use Rattle.rs_rules.specs.Contents.{Contents, contents}
use Rattle.rs_rules.specs.Snapshots.{Snapshot, snapshot}
use Rattle.rs_rules.specs.Lawful.{may_follow, AllFollow}
use Rattle.rs_rules.specs.Settled.{settled, settle}
use Rattle.rs_rules.proofs.Replay.{replay-append}
use Rattle.rs_rules.proofs.PointLaws.{touches, note-quiet, note-any_same, is_there-untouched, docs-with_entries, last_below-with_entries, with_entries-twice, folder_version-untouched}

docs-settled : (h : History) (es : List (LogEntry Record)) → docs (settled h es) ≡ docs (with_entries h es)
docs-settled h es = sym (docs-with_entries h es)

scopes-settled : (h : History) (es : List (LogEntry Record)) (t : List ℕ) → scopes_of (settled h es) t ≡ scopes_of (with_entries h es) t
scopes-settled h es t = sym (replay-append (scopes_after t) h.base.cut (h.base.tokens t) h.entries es)

cond_twice : (b : Bool) (v : ℕ) → cond b (cond b v 0) 0 ≡ cond b v 0
cond_twice true v = refl
cond_twice false v = refl

folder_version-settled : (h : History) (es : List (LogEntry Record)) (f : Path) → folder_version (settled h es) f ≡ folder_version (with_entries h es) f
folder_version-settled h es f =
    ⊎_elim
    (λ touched. ap (λ b. cond b (last_below (settled h es) f) 0) (ap (is_there f) (docs-settled h es))
    ∙ ap (λ v. cond (is_there f (docs (with_entries h es))) v 0)
    (note-any_same f (len h) (folder_version h f) (last_below h f) es touched ∙ sym (last_below-with_entries h es f)))
    (λ quiet. ap (λ v. cond (is_there f (docs (settled h es))) v 0) (note-quiet f (len h) (folder_version h f) es quiet)
    ∙ ap (λ b. cond b (folder_version h f) 0) (is_there-untouched f (len h) (docs h) es quiet)
    ∙ cond_twice (is_there f (docs h)) (last_below h f)
    ∙ sym (folder_version-untouched h es f quiet))
    (cases_Bool (touches f es))

ver-settled : (h : History) (es : List (LogEntry Record)) (p : Path) → ver (settled h es) p ≡ ver (with_entries h es) p
ver-settled h es p =
    ap (cond p.folder (folder_version (settled h es) p)) (ap (λ ds. doc_version (doc_in p ds)) (docs-settled h es))
    ∙ ap (λ v. cond p.folder v (doc_version (doc_in p (docs (with_entries h es))))) (folder_version-settled h es p)

contents-settled : (h : History) (es : List (LogEntry Record)) → contents (settled h es) ≡ contents (with_entries h es)
contents-settled h es =
    let make : List Placed → (Path → ℕ) → Contents = λ ds v. record { docs = ds; version = v } in
    ap (λ ds. make ds (λ p. ver (settled h es) p)) (docs-settled h es)
    ∙ ap (make (docs (with_entries h es))) (fun_ext (λ p. ver-settled h es p))

-- all that an answer looks at is the same
pub snapshot-settled : (h : History) (es : List (LogEntry Record)) → snapshot (settled h es) ≡ snapshot (with_entries h es)
snapshot-settled h es =
    let make : ℕ → Contents → (List ℕ → Option (List Scope)) → Snapshot = λ n w t. record { len = n; contents = w; scopes = t } in
    let long : len (settled h es) ≡ len (with_entries h es) = omega (arith, length-append h.entries es) in
    ap (λ n. make n (contents (settled h es)) (λ t. scopes_of (settled h es) t)) long
    ∙ ap (λ w. make (len (with_entries h es)) w (λ t. scopes_of (settled h es) t)) (contents-settled h es)
    ∙ ap (make (len (with_entries h es)) (contents (with_entries h es))) (fun_ext (λ t. scopes-settled h es t))

-- what follows rightly on the whole history follows rightly on the settled one
pub follow-settled : (h : History) (es fs : List (LogEntry Record)) → AllFollow (with_entries h es) fs → AllFollow (settled h es) fs
follow-settled h es [] each = tt
follow-settled h es (f ∷ fs) each = (
  subst (λ (s : Snapshot). IsTrue (may_follow s f.what)) (sym (snapshot-settled h es)) each.0,
  follow-settled h (es ++ f ∷ []) fs (subst (λ g. AllFollow g fs) (with_entries-twice h es (f ∷ [])) each.1),
)

-- at every point from n on, the settled history shows what the whole one shows
pub snapshot-settle : (h : History) (n m : ℕ) → IsPoint n h → n ≤ m → snapshot (up_to m (settle h n)) ≡ snapshot (up_to m h)
snapshot-settle h n m point later =
    let cut = h.base.cut in
    let above : cut ≤ n = point.above in
    let within : n ≤ cut + length h.entries = point.within in
    let short : length (take (n - cut) h.entries) ≡ n - cut = omega (arith, length-take (n - cut) h.entries) in
    let steps : m - len (up_to n h) ≡ m - n = omega (arith, short) in
    let rest = drop (n - cut) h.entries in
    let all : (n - cut) + (m - n) ≡ m - cut = omega arith in
    ap (λ k. snapshot (settled (up_to n h) (take k rest))) steps
    ∙ snapshot-settled (up_to n h) (take (m - n) rest)
    ∙ ap (λ es. snapshot (record { base = h.base; entries = es })) (sym (take-add (n - cut) (m - n) h.entries) ∙ ap (λ k. take k h.entries) all)
