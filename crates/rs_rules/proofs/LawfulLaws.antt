-- Lawful histories: their fronts, one more entry, and what holds along them.
use Rattle.std.proofs.Common.{◌≡◌, ℕ, ◌-◌, ◌<◌, ◌≤◌, Bool, true, List, [], ◌∷◌, ◌++◌, length, take, drop, arith, sym, ap, subst, append-nil, length-take, take-append-drop}
use Rattle.std.specs.Prelude.{IsTrue}
use Rattle.std.proofs.lemmas.Bool.{true≢false}
use Rattle.rs_path.specs.declared.log_entry.LogEntry.{LogEntry}
use Rattle.rs_record.specs.declared.records.Record.{Record}
use Rattle.rs_rules.specs.Limits.{max_len}
use Rattle.rs_rules.specs.Histories.{empty_base, History, start, len, with_entry, with_entries, up_to}
use Rattle.rs_rules.specs.Snapshots.{snapshot}
use Rattle.rs_rules.specs.Lawful.{may_follow, AllFollow, IsLawful}
use Rattle.rs_rules.specs.Sound.{HasVersions}
use Rattle.rs_rules.proofs.Replay.{len-with_entry}
use Rattle.rs_rules.proofs.PointLaws.{with_entries-twice}

pub with_entries-none : (h : History) → with_entries h [] ≡ h
with_entries-none h = ap (λ es. record { base = h.base; entries = es }) (append-nil h.entries)

pub follow-front : (h : History) (xs ys : List (LogEntry Record)) → AllFollow h (xs ++ ys) → AllFollow h xs
follow-front h [] ys each = tt
follow-front h (e ∷ xs) ys each = (each.0, follow-front (with_entry h e) xs ys each.1)

pub follow-push : (h : History) (xs : List (LogEntry Record)) (e : LogEntry Record) → AllFollow h xs → IsTrue (may_follow (snapshot (with_entries h xs)) e.what) → AllFollow h (xs ++ e ∷ [])
follow-push h [] e each last = (subst (λ g. IsTrue (may_follow (snapshot g) e.what)) (with_entries-none h) last, tt)
follow-push h (x ∷ xs) e each last =
    (each.0, follow-push (with_entry h x) xs e each.1 (subst (λ g. IsTrue (may_follow (snapshot g) e.what)) (sym (with_entries-twice h (x ∷ []) xs)) last))

-- what holds of a history and of one more lawful entry holds of all that follow
pub along : (P : History → Type 0) → ((h : History) (e : LogEntry Record) → P h → IsTrue (may_follow (snapshot h) e.what) → P (with_entry h e))
    → (h : History) (es : List (LogEntry Record)) → AllFollow h es → P h → P (with_entries h es)
along P step h [] each now = subst P (sym (with_entries-none h)) now
along P step h (e ∷ es) each now =
    subst P (with_entries-twice h (e ∷ []) es) (along P step (with_entry h e) es each.1 (step h e now each.0))

-- the same from the base of a lawful history on
pub along_lawful : (P : History → Type 0) → ((h : History) (e : LogEntry Record) → P h → IsTrue (may_follow (snapshot h) e.what) → P (with_entry h e))
    → P (start empty_base) → (h : History) → IsLawful h → P h
along_lawful P step first h law =
    along P step (start h.base) h.entries law.each (subst (λ b. P (start b)) (sym law.base) first)

pub lawful-front : (h : History) (n : ℕ) → IsLawful h → IsLawful (up_to n h)
lawful-front h n law =
    let k = n - h.base.cut in
    let short : length (take k h.entries) ≤ length h.entries = omega (arith, length-take k h.entries) in
    let few : len h ≤ max_len = law.few in
    record {
      base = law.base;
      each = follow-front (start h.base) (take k h.entries) (drop k h.entries) (subst (λ es. AllFollow (start h.base) es) (sym (take-append-drop k h.entries)) law.each);
      few = omega (arith, short, few);
    }

pub lawful-with_entry : (h : History) (e : LogEntry Record) → IsLawful h → may_follow (snapshot h) e.what ≡ true → len h < max_len → IsLawful (with_entry h e)
lawful-with_entry h e law may room = record {
  base = law.base;
  each = follow-push (start h.base) h.entries e law.each (IsTrue-from may);
  few = let more = len-with_entry h e in omega (arith, more, room);
}
  where
    IsTrue-from : {b : Bool} → b ≡ true → IsTrue b
    IsTrue-from same = same

empty_versions : HasVersions empty_base
empty_versions = record { small = λ folder. omega arith; there = λ folder some. absurd (true≢false (sym some)) }

-- a lawful base has versions for its folders
pub versions-lawful : (h : History) → IsLawful h → HasVersions h.base
versions-lawful h law = subst HasVersions (sym law.base) empty_versions
