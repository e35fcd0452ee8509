-- The target that asks for an account is answered for that account.
use Rattle.std.proofs.Common.{◌≡◌, ℕ, ◌<◌, Bool, not, true, cond, List, [], ◌∷◌, ◌++◌, length, Result, Ok, Err, codes, IsUtf8, refl, ap, ap₂, ◌∙◌, arith, lt-ltb, length-append}
use Rattle.std.specs.List.{list_all, list_any}
use Rattle.std.specs.Str.{bytes_eq, is_utf8}
use Rattle.std.proofs.lemmas.List.Elements.{All-nil, All-cons}
use Rattle.std.proofs.lemmas.Str.{IsUtf8-append, is_utf8-from_IsUtf8}
use Rattle.json.proofs.Printed.Utf8.{IsUtf8-are_ascii}
use Rattle.rs_path.specs.Users.{is_user}
use Rattle.rs_form.specs.Fields.{form_fields, values_among, IsTextField}
use Rattle.rs_form.proofs.Cited.{form_back}
use Rattle.rs_finger.specs.Accounts.{is_uri, user_named}
use Rattle.rs_finger.specs.Answers.{is_wanted, user_answer, resource_answer, resources_answer, finger_answer}
use Rattle.rs_finger.specs.declared.finger_fault.FingerFault.{FingerFault}
use Rattle.rs_finger.specs.declared.finger_fault.FingerFault.TheVariants.{BadResource, Unknown}
use Rattle.rs_finger.specs.Jrds.{account_uri, jrd_text}
use Rattle.rs_finger.specs.Queries.{target_query}
use Rattle.rs_finger.proofs.UserLemmas.{user_text}
use Rattle.rs_finger.proofs.AccountLemmas.{named_own}

uri_text : (user host : List ℕ) → IsUtf8 user → IsUtf8 host → IsUtf8 (account_uri user host)
uri_text user host u h =
    IsUtf8-append (codes "acct:") (user ++ 64 ∷ host) (IsUtf8-are_ascii (codes "acct:") refl)
    (IsUtf8-append user (64 ∷ host) u (IsUtf8-append (64 ∷ []) host (IsUtf8-are_ascii (64 ∷ []) refl) h))

query_fields : (user host : List ℕ) → IsUtf8 user → IsUtf8 host
    → form_fields (target_query (user ++ 64 ∷ host)) ≡ (codes "resource", account_uri user host) ∷ []
query_fields user host u h =
    form_back ((codes "resource", account_uri user host) ∷ [])
    (All-cons IsTextField (codes "resource", account_uri user host) [] (IsUtf8-are_ascii (codes "resource") refl, uri_text user host u h) (All-nil IsTextField))

uri_is : (user host : List ℕ) → is_uri (account_uri user host) ≡ true
uri_is user host =
    let some : 0 < length (user ++ 64 ∷ host) = simp length-append (omega arith) in
    lt-ltb 0 (length (user ++ 64 ∷ host)) some

-- the answer by its two tests
abbrev tested : Bool → Bool → Result (List ℕ) FingerFault → Result (List ℕ) FingerFault
tested uri text answer = cond (not uri) (Err BadResource) (cond text answer (Err Unknown))

answered_one : (base host user : List ℕ) (users : List (List ℕ)) → IsUtf8 host → is_user user ≡ true → list_all is_user users ≡ true
    → list_any (bytes_eq user) users ≡ true → resource_answer base host users true (account_uri user host) ≡ Ok (jrd_text true base user host)
answered_one base host user users h is all among =
    let answer = user_answer base host true (user_named host (account_uri user host) users) in
    ap (λ (uri : Bool). tested uri (is_utf8 host) answer) (uri_is user host)
    ∙ ap (λ (text : Bool). tested true text answer) (is_utf8-from_IsUtf8 host h)
    ∙ ap (user_answer base host true) (named_own host user users is all among)

pub answered : (base host user : List ℕ) (users : List (List ℕ)) → IsUtf8 host → is_user user ≡ true → list_all is_user users ≡ true
    → list_any (bytes_eq user) users ≡ true → finger_answer base host users (target_query (user ++ 64 ∷ host)) ≡ Ok (jrd_text true base user host)
answered base host user users h is all among =
    let fields = query_fields user host (user_text user is) h in
    ap₂ (λ (rels resources : List (List ℕ)). resources_answer base host users (is_wanted rels) resources)
    (ap (values_among (codes "rel")) fields) (ap (values_among (codes "resource")) fields)
    ∙ answered_one base host user users h is all among
