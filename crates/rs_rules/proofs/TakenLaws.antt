-- The record that a request adds: it may follow, its writer is granted and reaches, and there is room for it.
use Rattle.std.proofs.Common.{◌≡◌, ℕ, ◌<◌, Bool, true, false, not, ◌&&◌, List, [], ◌∷◌, length, take, Option, Some, None, arith, refl, sym, ap, ◌∙◌, subst}
use Rattle.std.specs.Prelude.{nat_le, nat_lt, if◌then◌else◌, unwrap_or, option_map, is_some, is_none}
use Rattle.std.specs.Option.{option_or}
use Rattle.std.proofs.lemmas.Bool.{cond-false, cond_both, true≢false, and_from}
use Rattle.std.proofs.lemmas.Bool.Decides.{nat_tests}
use Rattle.rs_path.specs.Paths.{Path, folder_at}
use Rattle.rs_scope.specs.declared.method.Method.{Method}
use Rattle.rs_scope.specs.declared.method.Method.TheVariants.{Get, Head, Put, Delete}
use Rattle.rs_scope.specs.declared.scope.Scope.{Scope}
use Rattle.rs_scope.specs.Reach.{is_reading, reach_of, is_free_read}
use Rattle.rs_record.specs.declared.records.Record.{Record}
use Rattle.rs_record.specs.declared.records.Record.TheVariants.{Put as PutRecord, Remove as RemoveRecord, Grant as GrantRecord, Revoke as RevokeRecord}
use Rattle.rs_record.specs.Records.{body_limit}
use Rattle.rs_rules.specs.declared.call.Call.{Call}
use Rattle.rs_rules.specs.declared.doc.Doc.{Doc}
use Rattle.rs_rules.specs.declared.pass.Pass.{Pass}
use Rattle.rs_rules.specs.declared.pass.Pass.TheVariants.{Missing, Strange, Known}
use Rattle.rs_rules.specs.declared.reply.Reply.{Reply}
use Rattle.rs_rules.specs.declared.reply.Reply.TheVariants.{Stored, Removed, Same, NoToken, BadToken, Forbidden, FolderWrite, Clash, Absent, Unmet, RecordsFull, OverQuota, FolderFull, Granted, TokenTaken, Revoked, NotGranted}
use Rattle.rs_rules.specs.declared.request.Request.{Request}
use Rattle.rs_rules.specs.declared.request.Request.TheVariants.{Store, Grant, Revoke}
use Rattle.rs_rules.specs.Limits.{max_len}
use Rattle.rs_rules.specs.Histories.{History, len, with_entry}
use Rattle.rs_rules.specs.Documents.{doc_in, live_in}
use Rattle.rs_rules.specs.Clashes.{clash_in, clash_at, full_in}
use Rattle.rs_rules.specs.Snapshots.{Snapshot, snapshot}
use Rattle.rs_rules.specs.Requests.{is_within_limit}
use Rattle.rs_rules.specs.Conditions.{meets, excludes}
use Rattle.rs_rules.specs.Answers.{is_put, is_write, shows_none, shows_ungranted, falls_short, is_beyond, is_present, path_version, live_after, when, first_of, place_steps, early_steps, limit_steps, clash_reply, full_reply, shown_doc, shown, last_step, answer_call_in, answer_in, token_of, record_of_call, record_of_grant, record_of_revoke, record_of, taken, brought}
use Rattle.rs_rules.specs.Lawful.{scopes_reach, writer_may, may_follow, IsLawful}
use Rattle.rs_rules.specs.Growth.{is_store_failed}
use Rattle.rs_rules.specs.Laws.{HasReach}
use Rattle.rs_rules.proofs.LawfulLaws.{lawful-with_entry}

-- ---- no step but the last two gives a reply that passes the test

abbrev misses : (Reply → Bool) → Option Reply → Bool
misses test None = true
misses test (Some reply) = not (test reply)

misses-when : (test : Reply → Bool) (b : Bool) (r : Reply) → test r ≡ false → misses test (when b r) ≡ true
misses-when test true r other = ap not other
misses-when test false r other = refl

misses-cond : (test : Reply → Bool) (b : Bool) (o : Option Reply) → misses test o ≡ true → misses test (if b then o else None) ≡ true
misses-cond test true o other = other
misses-cond test false o other = refl

misses-map : {X : Type 0} (test : Reply → Bool) (f : X → Reply) (o : Option X) → ((x : X) → test (f x) ≡ false) → misses test (option_map f o) ≡ true
misses-map test f None other = refl
misses-map test f (Some x) other = ap not (other x)

-- no step of the list gives a reply that passes the test
data MissAll (test : Reply → Bool) : List (Option Reply) → Type 0 where
  end : MissAll test []
  more : {o : Option Reply} {os : List (Option Reply)} → misses test o ≡ true → MissAll test os → MissAll test (o ∷ os)

misses-or : (test : Reply → Bool) (o p : Option Reply) → misses test o ≡ true → misses test p ≡ true → misses test (option_or o p) ≡ true
misses-or test None p first second = second
misses-or test (Some r) p first second = first

misses-first_of : {test : Reply → Bool} {os : List (Option Reply)} → MissAll test os → misses test (first_of os) ≡ true
misses-first_of end = refl
misses-first_of {test} (more {o} {os} first rest) = misses-or test o (first_of os) first (misses-first_of rest)

not_false : (b : Bool) → not b ≡ false → b ≡ true
not_false true other = refl
not_false false other = absurd (true≢false other)

passes_none : (test : Reply → Bool) (r : Reply) → test r ≡ true → misses test (Some r) ≡ true → ⊥
passes_none test r hit other = true≢false (sym other ∙ ap not hit)

module _ (test : Reply → Bool)
    (no_token : test NoToken ≡ false) (bad_token : test BadToken ≡ false) (forbidden : test Forbidden ≡ false)
    (folder_write : test FolderWrite ≡ false) (clash : (p : Path) → test (Clash p) ≡ false) (absent : test Absent ≡ false)
    (unmet : test Unmet ≡ false) (same : (v : ℕ) → test (Same v) ≡ false) (records_full : test RecordsFull ≡ false)
    (over_quota : (n : ℕ) → test (OverQuota n) ≡ false) (folder_full : (p : Path) → test (FolderFull p) ≡ false) where
  early_misses : (s : Snapshot) (c : Call) → MissAll test (early_steps s c)
  early_misses s c =
      let free = is_free_read c.method c.path in
      let there = is_present s c in
      let version = path_version s c in
      more (misses-when test (not free && shows_none c.pass) NoToken no_token)
      (more (misses-when test (not free && shows_ungranted s c.pass) BadToken bad_token)
      (more (misses-when test (not free && is_beyond s c c.pass) Forbidden forbidden)
      (more (misses-when test (is_write c.method && c.path.folder) FolderWrite folder_write)
      (more (misses-cond test (is_put c.method) (clash_reply c.path (clash_in s.contents.docs c.path))
      (misses-map test (λ count. Clash (clash_at c.path count)) (clash_in s.contents.docs c.path) (λ count. clash (clash_at c.path count))))
      (more (misses-when test (not (is_put c.method) && not there) Absent absent)
      (more (misses-when test (not (meets c.if_match there version)) Unmet unmet)
      (more (misses-when test (is_write c.method && excludes c.if_none there version) Unmet unmet)
      (more (misses-when test (is_reading c.method && excludes c.if_none there version) (Same version) (same version)) end))))))))

  limit_misses : (s : Snapshot) (quota : ℕ) (c : Call) → MissAll test (limit_steps s quota c)
  limit_misses s quota c =
      more (misses-when test (is_write c.method && nat_le max_len s.len) RecordsFull records_full)
      (more (misses-when test (is_put c.method && nat_lt quota (live_after s c)) (OverQuota (live_in s.contents.docs)) (over_quota (live_in s.contents.docs)))
      (more (misses-cond test (is_put c.method) (full_reply c.path (full_in s.contents.docs c.path))
      (misses-map test (λ count. FolderFull (folder_at (take count c.path.names))) (full_in s.contents.docs c.path) (λ count. folder_full (folder_at (take count c.path.names))))) end))

-- ---- a step that doesn't apply

when_none : (b : Bool) (r : Reply) → when b r ≡ None → b ≡ false
when_none true r none = absurd (cc)
when_none false r none = refl

or_none : (o p : Option Reply) → option_or o p ≡ None → (o ≡ None) × (p ≡ None)
or_none None p none = (refl, none)
or_none (Some r) p none = absurd (cc)

map_none : {X : Type 0} (f : X → Reply) (o : Option X) → option_map f o ≡ None → o ≡ None
map_none f None none = refl
map_none f (Some x) none = absurd (cc)

-- ---- replies that add a record

abbrev adds : Reply → Bool
adds (Stored version created) = true
adds (Removed version) = true
adds reply = false

record_adds : (c : Call) (reply : Reply) (what : Record) → record_of_call c reply ≡ Some what → adds reply ≡ true
record_adds c (Stored version created) what there = refl
record_adds c (Removed version) what there = refl
record_adds c reply what there = absurd (cc)

shown_doc-adds : (o : Option Doc) → adds (shown_doc o) ≡ false
shown_doc-adds None = refl
shown_doc-adds (Some doc) = refl

shown-adds : (s : Snapshot) (p : Path) → adds (shown s p) ≡ false
shown-adds s p = cond_both p.folder _ _ (λ r. adds r ≡ false) (λ folder. refl) (λ document. shown_doc-adds (doc_in p s.contents.docs))

-- where neither list of steps has a reply that adds, such a reply is the last step's
last_only : (e l : Option Reply) (last : Reply) → misses adds e ≡ true → misses adds l ≡ true → adds (unwrap_or (option_or e l) last) ≡ true
    → (e ≡ None) × (l ≡ None)
last_only None None last early limit there = (refl, refl)
last_only None (Some r) last early limit there = absurd (passes_none adds r there limit)
last_only (Some r) l last early limit there = absurd (passes_none adds r there early)

early_adds : (s : Snapshot) (c : Call) → misses adds (first_of (early_steps s c)) ≡ true
early_adds s c = misses-first_of (early_misses adds refl refl refl refl (λ p. refl) refl refl (λ v. refl) refl (λ n. refl) (λ p. refl) s c)

limit_adds : (s : Snapshot) (quota : ℕ) (c : Call) → misses adds (first_of (limit_steps s quota c)) ≡ true
limit_adds s quota c = misses-first_of (limit_misses adds refl refl refl refl (λ p. refl) refl refl (λ v. refl) refl (λ n. refl) (λ p. refl) s quota c)

no_steps : (s : Snapshot) (quota : ℕ) (c : Call) (what : Record) → record_of_call c (answer_call_in s quota c) ≡ Some what
    → (first_of (early_steps s c) ≡ None) × (first_of (limit_steps s quota c) ≡ None)
no_steps s quota c what there =
    last_only (first_of (early_steps s c)) (first_of (limit_steps s quota c)) (last_step s c c.method) (early_adds s c) (limit_adds s quota c)
    (record_adds c (answer_call_in s quota c) what there)

-- and then the answer is the last step's
last_answer : (s : Snapshot) (quota : ℕ) (c : Call) (what : Record) → record_of_call c (answer_call_in s quota c) ≡ Some what
    → record_of_call c (last_step s c c.method) ≡ Some what
last_answer s quota c what there =
    let none = no_steps s quota c what there in
    sym (ap (λ o. record_of_call c (unwrap_or o (last_step s c c.method))) (ap (λ e. option_or e (first_of (limit_steps s quota c))) none.0 ∙ none.1)) ∙ there

-- ---- who writes

reaches_from : (o : Option (List Scope)) (m : Method) (p : Path) → is_none o ≡ false → falls_short o m p ≡ false → scopes_reach o m p ≡ true
reaches_from None m p granted reached = absurd (true≢false granted)
reaches_from (Some scopes) m p granted reached = not_false (reach_of scopes m p) reached

record Writes (s : Snapshot) (writer : Option (List ℕ)) (m : Method) (p : Path) : Type 0 where
  token : List ℕ
  shown : writer ≡ Some token
  reaches : scopes_reach (s.scopes token) m p ≡ true

writes_by : (s : Snapshot) (c : Call) (pass : Pass) → shows_none pass ≡ false → shows_ungranted s pass ≡ false → is_beyond s c pass ≡ false
    → Writes s (token_of pass) c.method c.path
writes_by s c Missing some known reached = absurd (true≢false some)
writes_by s c Strange some known reached = absurd (true≢false known)
writes_by s c (Known token) some known reached =
    record { token = token; shown = refl; reaches = reaches_from (s.scopes token) c.method c.path known reached }

writer-may : (s : Snapshot) (writer : Option (List ℕ)) (m : Method) (p : Path) → Writes s writer m p → writer_may s writer m p ≡ true
writer-may s writer m p w = ap (λ o. writer_may s o m p) w.shown ∙ w.reaches

-- ---- each method

abbrev with_method : Method → Call → Call
with_method m c = record c { method = m }

-- what a record that a request adds has
record Fits (s : Snapshot) (r : Request) (what : Record) : Type 0 where
  may : is_within_limit r ≡ true → may_follow s what ≡ true
  room : s.len < max_len

abbrev Reached : Snapshot → Record → Type 0
Reached s (PutRecord p k b w) = Writes s w Put p
Reached s (RemoveRecord p w) = Writes s w Delete p
Reached s (GrantRecord t x) = Unit {0}
Reached s (RevokeRecord t) = Unit {0}

roomy : (n : ℕ) → nat_le max_len n ≡ false → n < max_len
roomy n other = grind (arith, nat_tests)

some_same : {X : Type 0} (x y : X) → Some x ≡ Some y → x ≡ y
some_same x y same = cc

no_record : (s : Snapshot) (c : Call) (what : Record) → record_of_call c (shown s c.path) ≡ Some what → ⊥
no_record s c what there = true≢false (sym (record_adds c (shown s c.path) what there) ∙ shown-adds s c.path)

record Outcome (s : Snapshot) (r : Request) (what : Record) : Type 0 where
  fits : Fits s r what
  reached : Reached s what
  only : brought r ≡ Some what

put_outcome : (s : Snapshot) (quota : ℕ) (c : Call) (what : Record)
    → record_of_call (with_method Put c) (answer_call_in s quota (with_method Put c)) ≡ Some what → Outcome s (Store (with_method Put c)) what
put_outcome s quota c what there =
    let d : Call = record c { method = Put } in
    let none = no_steps s quota d what there in
    let made : PutRecord c.path c.kind c.body (token_of c.pass) ≡ what = some_same _ _ (last_answer s quota d what there) in
    let e1 = or_none _ _ none.0 in
    let e2 = or_none _ _ e1.1 in
    let e3 = or_none _ _ e2.1 in
    let e4 = or_none _ _ e3.1 in
    let e5 = or_none _ _ e4.1 in
    let l1 = or_none _ _ none.1 in
    let l2 = or_none _ _ l1.1 in
    let l3 = or_none _ _ l2.1 in
    let writes : Writes s (token_of c.pass) Put c.path = writes_by s d c.pass (when_none _ _ e1.0) (when_none _ _ e2.0) (when_none _ _ e3.0) in
    let document : c.path.folder ≡ false = when_none _ _ e4.0 in
    let apart : clash_in s.contents.docs c.path ≡ None = map_none (λ count. Clash (clash_at c.path count)) _ e5.0 in
    let fits : full_in s.contents.docs c.path ≡ None = map_none (λ count. FolderFull (folder_at (take count c.path.names))) _ l3.0 in
    subst (λ r. Outcome s (Store d) r) made
    (record {
      fits = record {
        may = λ short. and_from _ _ (ap not document) (and_from _ _ (ap (λ w. nat_le (length c.body) (body_limit w)) writes.shown ∙ short) (and_from _ _ (ap is_none apart) (and_from _ _ (ap is_none fits)
            (writer-may s (token_of c.pass) Put c.path writes))));
        room = roomy s.len (when_none _ _ l1.0);
      };
      reached = writes;
      only = refl;
    })

delete_outcome : (s : Snapshot) (quota : ℕ) (c : Call) (what : Record)
    → record_of_call (with_method Delete c) (answer_call_in s quota (with_method Delete c)) ≡ Some what → Outcome s (Store (with_method Delete c)) what
delete_outcome s quota c what there =
    let d : Call = record c { method = Delete } in
    let none = no_steps s quota d what there in
    let made : RemoveRecord c.path (token_of c.pass) ≡ what = some_same _ _ (last_answer s quota d what there) in
    let e1 = or_none _ _ none.0 in
    let e2 = or_none _ _ e1.1 in
    let e3 = or_none _ _ e2.1 in
    let e4 = or_none _ _ e3.1 in
    let e5 = or_none None _ e4.1 in
    let e6 = or_none (when (not (is_present s d)) Absent) _ e5.1 in
    let l1 = or_none _ _ none.1 in
    let writes : Writes s (token_of c.pass) Delete c.path = writes_by s d c.pass (when_none _ _ e1.0) (when_none _ _ e2.0) (when_none _ _ e3.0) in
    let document : c.path.folder ≡ false = when_none _ _ e4.0 in
    let present : is_present s d ≡ true = not_false (is_present s d) (when_none (not (is_present s d)) Absent e6.0) in
    let there : is_some (doc_in c.path s.contents.docs) ≡ true = sym (cond-false c.path.folder true (is_some (doc_in c.path s.contents.docs)) document) ∙ present in
    subst (λ r. Outcome s (Store d) r) made
    (record {
      fits = record {
        may = λ short. and_from _ _ there (writer-may s (token_of c.pass) Delete c.path writes);
        room = roomy s.len (when_none _ _ l1.0);
      };
      reached = writes;
      only = refl;
    })

call_outcome : (s : Snapshot) (quota : ℕ) (c : Call) (m : Method) (what : Record)
    → record_of_call (with_method m c) (answer_call_in s quota (with_method m c)) ≡ Some what → Outcome s (Store (with_method m c)) what
call_outcome s quota c Get what there = absurd (no_record s (record c { method = Get }) what (last_answer s quota (record c { method = Get }) what there))
call_outcome s quota c Head what there = absurd (no_record s (record c { method = Head }) what (last_answer s quota (record c { method = Head }) what there))
call_outcome s quota c Put what there = put_outcome s quota c what there
call_outcome s quota c Delete what there = delete_outcome s quota c what there

-- ---- grants

grant_by : (s : Snapshot) (t : List ℕ) (x : List Scope) (what : Record) (long granted : Bool) → nat_le max_len s.len ≡ long → is_some (s.scopes t) ≡ granted
    → record_of_grant t x (if long then RecordsFull else (if granted then TokenTaken else Granted)) ≡ Some what → Outcome s (Grant t x) what
grant_by s t x what true granted full taken there = absurd (cc)
grant_by s t x what false true full taken there = absurd (cc)
grant_by s t x what false false full taken there =
    subst (λ r. Outcome s (Grant t x) r) (some_same (GrantRecord t x) what there)
    (record { fits = record { may = λ short. ap not taken; room = roomy s.len full }; reached = tt; only = refl })

revoke_by : (s : Snapshot) (t : List ℕ) (what : Record) (free long : Bool) → is_none (s.scopes t) ≡ free → nat_le max_len s.len ≡ long
    → record_of_revoke t (if free then NotGranted else (if long then RecordsFull else Revoked)) ≡ Some what → Outcome s (Revoke t) what
revoke_by s t what true long granted full there = absurd (cc)
revoke_by s t what false true granted full there = absurd (cc)
revoke_by s t what false false granted full there =
    subst (λ r. Outcome s (Revoke t) r) (some_same (RevokeRecord t) what there)
    (record { fits = record { may = λ short. not_false (is_some (s.scopes t)) granted; room = roomy s.len full }; reached = tt; only = refl })

-- ---- every request

outcome : (s : Snapshot) (quota : ℕ) (r : Request) (what : Record) → record_of r (answer_in s quota r) ≡ Some what → Outcome s r what
outcome s quota (Store c) what there = call_outcome s quota c c.method what there
outcome s quota (Grant t x) what there = grant_by s t x what (nat_le max_len s.len) (is_some (s.scopes t)) refl refl there
outcome s quota (Revoke t) what there = revoke_by s t what (is_none (s.scopes t)) (nat_le max_len s.len) refl refl there

-- a record that a request adds may follow, and there is room for it
pub taken-may_follow : (h : History) (quota : ℕ) (r : Request) (what : Record) → is_within_limit r ≡ true → taken h quota r ≡ Some what
    → may_follow (snapshot h) what ≡ true
taken-may_follow h quota r what short there = (outcome (snapshot h) quota r what there).fits.may short

pub taken-room : (h : History) (quota : ℕ) (r : Request) (what : Record) → taken h quota r ≡ Some what → len h < max_len
taken-room h quota r what there = (outcome (snapshot h) quota r what there).fits.room

pub taken-lawful : (h : History) (quota who : ℕ) (r : Request) (what : Record) → IsLawful h → is_within_limit r ≡ true → taken h quota r ≡ Some what
    → IsLawful (with_entry h (record { who = who; what = what }))
taken-lawful h quota who r what law short there =
    lawful-with_entry h (record { who = who; what = what }) law (taken-may_follow h quota r what short there) (taken-room h quota r what there)

-- what is taken is the record that the request brings
pub taken-brought : (h : History) (quota : ℕ) (r : Request) (what : Record) → taken h quota r ≡ Some what → brought r ≡ Some what
taken-brought h quota r what there = (outcome (snapshot h) quota r what there).only

-- the writer of a record that a request adds is granted, with scopes that reach
pub reach_put : (h : History) (quota : ℕ) (r : Request) (p : Path) (k b : List ℕ) (w : Option (List ℕ)) → taken h quota r ≡ Some (PutRecord p k b w)
    → HasReach h w Put p
reach_put h quota r p k b w there =
    let reached : Writes (snapshot h) w Put p = (outcome (snapshot h) quota r (PutRecord p k b w) there).reached in
    record { token = reached.token; shown = reached.shown; reaches = reached.reaches }

pub reach_remove : (h : History) (quota : ℕ) (r : Request) (p : Path) (w : Option (List ℕ)) → taken h quota r ≡ Some (RemoveRecord p w)
    → HasReach h w Delete p
reach_remove h quota r p w there =
    let reached : Writes (snapshot h) w Delete p = (outcome (snapshot h) quota r (RemoveRecord p w) there).reached in
    record { token = reached.token; shown = reached.shown; reaches = reached.reaches }

-- ---- no answer says that the record could not be kept

early_kept : (s : Snapshot) (c : Call) → misses is_store_failed (first_of (early_steps s c)) ≡ true
early_kept s c = misses-first_of (early_misses is_store_failed refl refl refl refl (λ p. refl) refl refl (λ v. refl) refl (λ n. refl) (λ p. refl) s c)

limit_kept : (s : Snapshot) (quota : ℕ) (c : Call) → misses is_store_failed (first_of (limit_steps s quota c)) ≡ true
limit_kept s quota c = misses-first_of (limit_misses is_store_failed refl refl refl refl (λ p. refl) refl refl (λ v. refl) refl (λ n. refl) (λ p. refl) s quota c)

not_true : (b : Bool) → not b ≡ true → b ≡ false
not_true true other = absurd (true≢false (sym other))
not_true false other = refl

all_miss : (test : Reply → Bool) (e l : Option Reply) (last : Reply) → misses test e ≡ true → misses test l ≡ true → test last ≡ false
    → test (unwrap_or (option_or e l) last) ≡ false
all_miss test None None last early limit other = other
all_miss test None (Some r) last early limit other = not_true (test r) limit
all_miss test (Some r) l last early limit other = not_true (test r) early

shown_doc-kept : (o : Option Doc) → is_store_failed (shown_doc o) ≡ false
shown_doc-kept None = refl
shown_doc-kept (Some doc) = refl

shown-kept : (s : Snapshot) (p : Path) → is_store_failed (shown s p) ≡ false
shown-kept s p = cond_both p.folder _ _ (λ r. is_store_failed r ≡ false) (λ folder. refl) (λ document. shown_doc-kept (doc_in p s.contents.docs))

last_kept : (s : Snapshot) (c : Call) (m : Method) → is_store_failed (last_step s c m) ≡ false
last_kept s c Get = shown-kept s c.path
last_kept s c Head = shown-kept s c.path
last_kept s c Put = refl
last_kept s c Delete = refl

pub answer_kept : (s : Snapshot) (quota : ℕ) (r : Request) → is_store_failed (answer_in s quota r) ≡ false
answer_kept s quota (Store c) =
    all_miss is_store_failed (first_of (early_steps s c)) (first_of (limit_steps s quota c)) (last_step s c c.method) (early_kept s c) (limit_kept s quota c)
    (last_kept s c c.method)
answer_kept s quota (Grant t x) =
    cond_both (nat_le max_len s.len) _ _ (λ r. is_store_failed r ≡ false) (λ full. refl)
    (λ room. cond_both (is_some (s.scopes t)) _ _ (λ r. is_store_failed r ≡ false) (λ taken. refl) (λ free. refl))
answer_kept s quota (Revoke t) =
    cond_both (is_none (s.scopes t)) _ _ (λ r. is_store_failed r ≡ false) (λ free. refl)
    (λ granted. cond_both (nat_le max_len s.len) _ _ (λ r. is_store_failed r ≡ false) (λ full. refl) (λ room. refl))

-- ---- free reads

when-free : (free b : Bool) (r : Reply) → free ≡ true → when (not free && b) r ≡ None
when-free true b r reads = refl
when-free false b r reads = absurd (true≢false (sym reads))

early-free : (s : Snapshot) (c : Call) (pass : Pass) → is_free_read c.method c.path ≡ true
    → first_of (early_steps s (record c { pass = pass })) ≡ first_of (early_steps s c)
early-free s c pass reads =
    let free = is_free_read c.method c.path in
    let rest = first_of (place_steps s c) in
    skip (when (not free && shows_none pass) NoToken) (when (not free && shows_ungranted s pass) BadToken) (when (not free && is_beyond s c pass) Forbidden) rest
    (when-free free (shows_none pass) NoToken reads) (when-free free (shows_ungranted s pass) BadToken reads) (when-free free (is_beyond s c pass) Forbidden reads)
    ∙ sym (skip (when (not free && shows_none c.pass) NoToken) (when (not free && shows_ungranted s c.pass) BadToken) (when (not free && is_beyond s c c.pass) Forbidden) rest
    (when-free free (shows_none c.pass) NoToken reads) (when-free free (shows_ungranted s c.pass) BadToken reads) (when-free free (is_beyond s c c.pass) Forbidden reads))
  where
    skip : (a b d rest : Option Reply) → a ≡ None → b ≡ None → d ≡ None → option_or a (option_or b (option_or d rest)) ≡ rest
    skip a b d rest first second third = ap (λ o. option_or o (option_or b (option_or d rest))) first ∙ ap (λ o. option_or o (option_or d rest)) second ∙ ap (λ o. option_or o rest) third

-- where reading is free, the answer doesn't depend on the token that is shown
pub answer-free : (s : Snapshot) (quota : ℕ) (c : Call) (pass : Pass) → is_free_read c.method c.path ≡ true
    → answer_call_in s quota (record c { pass = pass }) ≡ answer_call_in s quota c
answer-free s quota c pass reads =
    ap (λ e. unwrap_or (option_or e (first_of (limit_steps s quota c))) (last_step s c c.method)) (early-free s c pass reads)
