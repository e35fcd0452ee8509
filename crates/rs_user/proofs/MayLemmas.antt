-- What stands rightly, and what the answers tell of it.
use Rattle.std.proofs.Common.{◌≡◌, ℕ, ◌<◌, ◌≤◌, Bool, true, false, not, List, [], ◌∷◌, length, Option, Some, None, arith, refl, sym, ap, ◌∙◌, ⊎_elim}
use Rattle.std.specs.Prelude.{nat_le, is_some, is_none, option_map, find}
use Rattle.std.proofs.lemmas.Bool.{cases_Bool, cond-false, true≢false, and_parts}
use Rattle.std.proofs.lemmas.Bool.Decides.{nat_tests}
use mathlib.Core.Bool.{beq}
use Rattle.rs_path.specs.Limits.{max_body}
use Rattle.rs_path.specs.Paths.{Path, same_path}
use Rattle.rs_scope.specs.declared.method.Method.{Method}
use Rattle.rs_scope.specs.declared.method.Method.TheVariants.{Get, Head, Put, Delete}
use Rattle.rs_scope.specs.declared.scope.Scope.{Scope}
use Rattle.rs_record.specs.declared.records.Record.TheVariants.{Put as PutRecord}
use Rattle.rs_record.specs.Records.{body_limit}
use Rattle.rs_rules.specs.declared.placed.Placed.{Placed}
use Rattle.rs_rules.specs.declared.reply.Reply.TheVariants.{Granted, Revoked}
use Rattle.rs_rules.specs.declared.request.Request.TheVariants.{Grant, Revoke}
use Rattle.rs_rules.specs.Limits.{max_len}
use Rattle.rs_rules.specs.Histories.{History, len}
use Rattle.rs_rules.specs.Documents.{doc_in}
use Rattle.rs_rules.specs.Tokens.{scopes_of}
use Rattle.rs_rules.specs.Requests.{is_short_for}
use Rattle.rs_rules.specs.Snapshots.{snapshot}
use Rattle.rs_rules.specs.Answers.{is_put, answer}
use Rattle.rs_rules.specs.Lawful.{may_follow}
use Rattle.rs_rules.specs.Sound.{are_documents}

limited : (writer : Option (List ℕ)) (n : ℕ) → nat_le n (body_limit writer) ≡ true → n ≤ max_body
limited None n short = grind (arith, nat_tests)
limited (Some writer) n short = grind (arith, nat_tests)

-- the body of a Put that stands rightly
pub put_short : (h : History) (path : Path) (kind body : List ℕ) (writer : Option (List ℕ))
    → may_follow (snapshot h) (PutRecord path kind body writer) ≡ true → length body ≤ max_body
put_short h path kind body writer may =
    let parts = and_parts (not path.folder) _ may in
    limited writer (length body) (and_parts (nat_le (length body) (body_limit writer)) _ parts.1).0

-- the body of a Put
pub put_within : (method : Method) (body : List ℕ) → is_short_for method body ≡ true → is_put method ≡ true → length body ≤ max_body
put_within Get body short put = absurd (true≢false (sym put))
put_within Head body short put = absurd (true≢false (sym put))
put_within Put body short put = limited (Some []) (length body) short
put_within Delete body short put = absurd (true≢false (sym put))

same_flag : (a b : Bool) → beq a b ≡ true → a ≡ b
same_flag true true is = refl
same_flag true false is = absurd (true≢false (sym is))
same_flag false true is = absurd (true≢false (sym is))
same_flag false false is = refl

pub not_true : (b : Bool) → not b ≡ true → b ≡ false
not_true true is = absurd (true≢false (sym is))
not_true false is = refl

-- where a document is there, the path is a document's
pub document_there : (path : Path) (docs : List Placed) → are_documents docs ≡ true → is_some (doc_in path docs) ≡ true → path.folder ≡ false
document_there path [] all there = absurd (true≢false (sym there))
document_there path (d ∷ ds) all there =
    let parts = and_parts (not d.path.folder) (are_documents ds) all in
    ⊎_elim
    (λ hit. same_flag path.folder d.path.folder (and_parts _ (beq path.folder d.path.folder) hit).1 ∙ not_true d.path.folder parts.0)
    (λ clear. document_there path ds parts.1
    (sym (ap (λ o. is_some (option_map (λ (e : Placed). e.doc) o)) (cond-false (same_path path d.path) (Some d) (find (λ (e : Placed). same_path path e.path) ds) clear)) ∙ there))
    (cases_Bool (same_path path d.path))

roomy : (n : ℕ) → n < max_len → nat_le max_len n ≡ false
roomy n few = grind (arith, nat_tests)

-- a token without scopes is granted some
pub granted_answer : (h : History) (quota : ℕ) (token : List ℕ) (scopes : List Scope) → len h < max_len → is_some (scopes_of h token) ≡ false
    → answer h quota (Grant token scopes) ≡ Granted
granted_answer h quota token scopes few none = cond-false (nat_le max_len (len h)) _ _ (roomy (len h) few) ∙ cond-false (is_some (scopes_of h token)) _ _ none

-- a token with scopes loses them
pub revoked_answer : (h : History) (quota : ℕ) (token : List ℕ) → len h < max_len → is_none (scopes_of h token) ≡ false
    → answer h quota (Revoke token) ≡ Revoked
revoked_answer h quota token few some = cond-false (is_none (scopes_of h token)) _ _ some ∙ cond-false (nat_le max_len (len h)) _ _ (roomy (len h) few)

none_of : {X : Type 0} (o : Option X) → is_some o ≡ false → is_none o ≡ true
none_of None is = refl
none_of (Some x) is = absurd (true≢false is)

some_of : {X : Type 0} (o : Option X) → is_none o ≡ false → is_some o ≡ true
some_of None is = absurd (true≢false is)
some_of (Some x) is = refl

pub may_grant : (h : History) (token : List ℕ) → is_some (scopes_of h token) ≡ false → is_none (scopes_of h token) ≡ true
may_grant h token none = none_of (scopes_of h token) none

pub may_revoke : (h : History) (token : List ℕ) → is_none (scopes_of h token) ≡ false → is_some (scopes_of h token) ≡ true
may_revoke h token some = some_of (scopes_of h token) some
