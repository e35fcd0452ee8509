-- What a call answers, from what it read or wrote.
use Rattle.std.proofs.Common.{◌≡◌, ℕ, true, false, not, ◌||◌, ◌==◌, length, cond, Bool, List, [], ◌∷◌, map, String, Global, string_bytes, Option, Some, None, Result, Err, IsUtf8, refl, sym, ap, ◌∙◌, arith}
use Rattle.std.specs.List.{list_any}
use Rattle.std.specs.Str.{bytes_eq, is_utf8}
use Rattle.std.proofs.lemmas.Bool.{false_from_ne_true}
use Rattle.std.proofs.lemmas.Bool.Decides.{nat_tests}
use Rattle.std.proofs.lemmas.Str.{IsUtf8-from_is_utf8, is_utf8-from_IsUtf8}
use Rattle.serde_json.specs.Data.{Data}
use Rattle.serde_json.specs.Read.{read}
use Rattle.rs_form.specs.Fields.{one_value, first_value}
use Rattle.rs_finger.specs.Accounts.{is_uri, user_named}
use Rattle.rs_finger.specs.Jrds.{storage_rel}
use Rattle.rs_finger.specs.Answers.{is_wanted, user_answer, resource_answer, resources_answer, GivesText, AnswersFinger}
use Rattle.rs_finger.specs.JrdReadings.{value_links, jrd_reading}
use Rattle.rs_finger.specs.declared.finger_fault.FingerFault.{FingerFault}
use Rattle.rs_finger.specs.declared.finger_fault.FingerFault.TheVariants.{NoResource, BadResource, Unknown, NoLink, NoMemory}

-- a refusal, where nothing was appended
pub refuses : (X : Type 0) (fault : FingerFault) (old new : List ℕ) (wanted : Result (List ℕ) FingerFault) → GivesText (Err fault) wanted → new ≡ old
    → AnswersFinger {X = X} (Err fault) old new wanted
refuses X NoResource old new wanted is same = (is, same)
refuses X BadResource old new wanted is same = (is, same)
refuses X Unknown old new wanted is same = (is, same)
refuses X NoLink old new wanted is same = is
refuses X NoMemory old new wanted is same = same

-- a text is among some
pub any_text : (wanted : List ℕ) (texts : List (String Global)) → list_any (λ text. bytes_eq (string_bytes text) wanted) texts
    ≡ list_any (λ text. bytes_eq text wanted) (map string_bytes texts)
any_text wanted [] = refl
any_text wanted (text ∷ texts) = ap (λ (others : Bool). bytes_eq (string_bytes text) wanted || others) (any_text wanted texts)

-- the link is wanted where no `rel` is
pub wanted_alone : (rels : List (String Global)) → (length rels == 0) ≡ true → true ≡ is_wanted (map string_bytes rels)
wanted_alone [] none = refl
wanted_alone (rel ∷ rels) none = let zero : length (rel ∷ rels) ≡ 0 = grind (arith, nat_tests) in absurd (omega arith)

-- and where one is, if it is among them
pub wanted_among : (rels : List (String Global)) → (length rels == 0) ≡ false
    → list_any (λ text. bytes_eq (string_bytes text) storage_rel) rels ≡ is_wanted (map string_bytes rels)
wanted_among [] some = absurd (cc)
wanted_among (rel ∷ rels) some = any_text storage_rel (rel ∷ rels)

-- who is named, by equal texts
pub named_as : (host resource own_host own_resource user : List ℕ) (users own_users : List (List ℕ))
    → Some user ≡ user_named own_host own_resource own_users → own_host ≡ host → own_resource ≡ resource → own_users ≡ users
    → user_named host resource users ≡ Some user
named_as host resource own_host own_resource user users own_users is h r u =
    sym (is ∙ ap (λ x. user_named x own_resource own_users) h ∙ ap (λ x. user_named host x own_users) r ∙ ap (user_named host resource) u)

-- bytes that are a value of JSON
pub jrd_reading-value : (bytes : List ℕ) (value : Data) → IsUtf8 bytes → read bytes ≡ Some value → jrd_reading bytes ≡ value_links (Some value)
jrd_reading-value bytes value text is = ap (λ (test : Bool). cond test (value_links (read bytes)) (Err NoLink)) (is_utf8-from_IsUtf8 bytes text) ∙ ap value_links is

none_by : (bytes : List ℕ) (text : Bool) → is_utf8 bytes ≡ text → (IsUtf8 bytes → read bytes ≡ None) → jrd_reading bytes ≡ Err NoLink
none_by bytes true is none =
    ap (λ (test : Bool). cond test (value_links (read bytes)) (Err NoLink)) is ∙ ap value_links (none (IsUtf8-from_is_utf8 bytes is))
none_by bytes false is none = ap (λ (test : Bool). cond test (value_links (read bytes)) (Err NoLink)) is

-- bytes that are none
pub jrd_reading-none : (bytes : List ℕ) → (IsUtf8 bytes → read bytes ≡ None) → jrd_reading bytes ≡ Err NoLink
jrd_reading-none bytes none = none_by bytes (is_utf8 bytes) refl none

-- ---- what the values of `resource` are answered

no_resource : (base host : List ℕ) (users : List (List ℕ)) (linked : Bool) (values : List (List ℕ)) → first_value values ≡ None
    → resources_answer base host users linked values ≡ Err NoResource
no_resource base host users linked [] none = refl
no_resource base host users linked (value ∷ values) none = absurd (cc)

pub gives_no_resource : (base host : List ℕ) (users : List (List ℕ)) (linked : Bool) (values : List (List ℕ)) → None ≡ first_value values
    → GivesText (Err NoResource) (resources_answer base host users linked values)
gives_no_resource base host users linked values none = no_resource base host users linked values (sym none)

many_resources : (base host first : List ℕ) (users : List (List ℕ)) (linked : Bool) (values : List (List ℕ)) → first_value values ≡ Some first
    → one_value values ≡ None → resources_answer base host users linked values ≡ Err BadResource
many_resources base host first users linked [] some none = absurd (cc)
many_resources base host first users linked (value ∷ []) some none = absurd (cc)
many_resources base host first users linked (value ∷ other ∷ others) some none = refl

pub gives_many_resources : (base host first : List ℕ) (users : List (List ℕ)) (linked : Bool) (values : List (List ℕ)) → Some first ≡ first_value values
    → None ≡ one_value values → GivesText (Err BadResource) (resources_answer base host users linked values)
gives_many_resources base host first users linked values some none =
    many_resources base host first users linked values (sym some) (sym none)

pub one_resource : (base host : List ℕ) (users : List (List ℕ)) (linked : Bool) (values : List (List ℕ)) (value : List ℕ) → Some value ≡ one_value values
    → resource_answer base host users linked value ≡ resources_answer base host users linked values
one_resource base host users linked [] value one = absurd (cc)
one_resource base host users linked (own ∷ []) value one =
    let same : value ≡ own = cc in ap (resource_answer base host users linked) same
one_resource base host users linked (own ∷ other ∷ others) value one = absurd (cc)

-- ---- what one resource is answered

abbrev tested : Bool → Bool → Result (List ℕ) FingerFault → Result (List ℕ) FingerFault
tested uri text answer = cond (not uri) (Err BadResource) (cond text answer (Err Unknown))

pub no_uri : (base host resource : List ℕ) (users : List (List ℕ)) (linked : Bool) → is_uri resource ≡ false
    → resource_answer base host users linked resource ≡ Err BadResource
no_uri base host resource users linked uri =
    ap (λ (test : Bool). tested test (is_utf8 host) (user_answer base host linked (user_named host resource users))) uri

pub no_text : (base host resource : List ℕ) (users : List (List ℕ)) (linked : Bool) → is_uri resource ≡ true → is_utf8 host ≡ false
    → resource_answer base host users linked resource ≡ Err Unknown
no_text base host resource users linked uri text =
    ap (λ (test : Bool). tested test (is_utf8 host) (user_answer base host linked (user_named host resource users))) uri
    ∙ ap (λ (test : Bool). tested true test (user_answer base host linked (user_named host resource users))) text

pub of_user : (base host resource : List ℕ) (users : List (List ℕ)) (linked : Bool) (user : Option (List ℕ)) → is_uri resource ≡ true → is_utf8 host ≡ true
    → user_named host resource users ≡ user → resource_answer base host users linked resource ≡ user_answer base host linked user
of_user base host resource users linked user uri text named =
    ap (λ (test : Bool). tested test (is_utf8 host) (user_answer base host linked (user_named host resource users))) uri
    ∙ ap (λ (test : Bool). tested true test (user_answer base host linked (user_named host resource users))) text
    ∙ ap (user_answer base host linked) named

pub not_text : (host : List ℕ) → ¬ IsUtf8 host → is_utf8 host ≡ false
not_text host none = false_from_ne_true (is_utf8 host) (λ is. none (IsUtf8-from_is_utf8 host is))
