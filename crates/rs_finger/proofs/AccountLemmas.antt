-- Which user a resource names.
use Rattle.std.proofs.Common.{◌≡◌, ℕ, ◌+◌, ◌<◌, Bool, true, false, cond, List, [], ◌∷◌, ◌++◌, length, take, drop, map, get_or, Option, Some, None, option_and_then, codes, ◌⊎◌, inl, inr, ⊎_elim, refl, sym, ap, ap₂, ◌∙◌, take-append-drop}
use Rattle.std.specs.List.{list_all, list_any}
use Rattle.std.specs.Char.{to_ascii_lowercase}
use Rattle.std.specs.Str.{bytes_eq}
use Rattle.std.proofs.Math.Seq.{take-append_seam, drop-append_seam}
use Rattle.std.proofs.lemmas.Bool.{and_parts}
use Rattle.std.proofs.lemmas.List.{at_drop_more}
use Rattle.std.proofs.lemmas.Slice.Eq.{bytes_eq-Decides}
use Rattle.form_urlencoded.specs.Form.{split_once}
use Rattle.form_urlencoded.proofs.FormLemmas.{split_once_before_at}
use Rattle.rs_path.specs.Users.{is_user}
use Rattle.rs_finger.specs.Accounts.{behind, host_named, is_named_host, user_named}
use Rattle.rs_finger.specs.Jrds.{account_uri}
use Rattle.rs_finger.proofs.UserLemmas.{user_without_at}

-- ---- the URI of an account

behind-append : (front rest : List ℕ) → behind front (front ++ rest) ≡ Some rest
behind-append front rest =
    let same : bytes_eq (take (length front) (front ++ rest)) front ≡ true = (bytes_eq-Decides (take (length front) (front ++ rest)) front).1 (take-append_seam front rest) in
    rw same (ap (λ (xs : List ℕ). Some xs) (drop-append_seam front rest))

pub host_named-uri : (user host : List ℕ) → host_named user (account_uri user host) ≡ Some host
host_named-uri user host =
    ap (λ (o : Option (List ℕ)). option_and_then (behind (64 ∷ [])) (option_and_then (behind user) o)) (behind-append (codes "acct:") (user ++ 64 ∷ host))
    ∙ ap (option_and_then (behind (64 ∷ []))) (behind-append user (64 ∷ host)) ∙ behind-append (64 ∷ []) host

behind_by : (test : Bool) (front text rest : List ℕ) → bytes_eq (take (length front) text) front ≡ test
    → cond test (Some (drop (length front) text)) None ≡ Some rest → text ≡ front ++ rest
behind_by true front text rest same is =
    let front_is = (bytes_eq-Decides (take (length front) text) front).0 same in
    let rest_is : drop (length front) text ≡ rest = cc in
    sym (take-append-drop (length front) text) ∙ ap₂ (λ (xs ys : List ℕ). xs ++ ys) front_is rest_is
behind_by false front text rest same is = absurd (cc)

behind-is : (front text rest : List ℕ) → behind front text ≡ Some rest → text ≡ front ++ rest
behind-is front text rest is = behind_by (bytes_eq (take (length front) text) front) front text rest refl is

then_is : (f : List ℕ → Option (List ℕ)) (o : Option (List ℕ)) (host : List ℕ) → option_and_then f o ≡ Some host
    → (text : List ℕ) × ((o ≡ Some text) × (f text ≡ Some host))
then_is f None host is = absurd (cc)
then_is f (Some text) host is = (text, (refl, is))

pub uri_of-host_named : (user host resource : List ℕ) → host_named user resource ≡ Some host → resource ≡ account_uri user host
uri_of-host_named user host resource is =
    let last = then_is (behind (64 ∷ [])) (option_and_then (behind user) (behind (codes "acct:") resource)) host is in
    let middle = then_is (behind user) (behind (codes "acct:") resource) last.0 last.1.0 in
    behind-is (codes "acct:") resource middle.0 middle.1.0
    ∙ ap (λ (xs : List ℕ). codes "acct:" ++ xs) (behind-is user middle.0 last.0 middle.1.1 ∙ ap (λ (xs : List ℕ). user ++ xs) (behind-is (64 ∷ []) last.0 host last.1.1))

-- ---- the first user who is named

head_named : (host resource first : List ℕ) (others : List (List ℕ)) (user : List ℕ) → user ≡ first
    → is_named_host host (host_named user resource) ≡ true → user_named host resource (first ∷ others) ≡ Some user
head_named host resource first others user same is =
    let at = ap (λ (u : List ℕ). is_named_host host (host_named u resource)) (sym same) ∙ is in
    ap (λ (b : Bool). cond b (Some first) (user_named host resource others)) at ∙ ap (λ (u : List ℕ). Some u) (sym same)

head_passed : (host resource first : List ℕ) (others : List (List ℕ)) (user : List ℕ) → user ≡ first
    → is_named_host host (host_named user resource) ≡ false → user_named host resource (first ∷ others) ≡ user_named host resource others
head_passed host resource first others user same is =
    let at = ap (λ (u : List ℕ). is_named_host host (host_named u resource)) (sym same) ∙ is in
    ap (λ (b : Bool). cond b (Some first) (user_named host resource others)) at

-- the user at an index is the first one where those before aren't
pub named_here : (host resource : List ℕ) (users : List (List ℕ)) (i : ℕ) (user : List ℕ) → i < length users → user ≡ get_or users i user
    → is_named_host host (host_named user resource) ≡ true → user_named host resource (drop i users) ≡ Some user
named_here host resource users i user within here is =
    at_drop_more (user_named host resource) users i user within
    ∙ head_named host resource (get_or users i user) (drop (i + 1) users) user here is

pub named_past : (host resource : List ℕ) (users : List (List ℕ)) (i : ℕ) (user : List ℕ) → i < length users → user ≡ get_or users i user
    → is_named_host host (host_named user resource) ≡ false → user_named host resource (drop i users) ≡ user_named host resource (drop (i + 1) users)
named_past host resource users i user within here is =
    at_drop_more (user_named host resource) users i user within
    ∙ head_passed host resource (get_or users i user) (drop (i + 1) users) user here is

named_by : (test : Bool) (others : Option (List ℕ)) (first user : List ℕ) → cond test (Some first) others ≡ Some user
    → (first ≡ user) ⊎ (others ≡ Some user)
named_by true others first user is = inl (cc)
named_by false others first user is = inr is

-- who is named is one of the users
pub named_is_user : (host resource : List ℕ) (users : List (List ℕ)) (user : List ℕ) → list_all is_user users ≡ true
    → user_named host resource users ≡ Some user → is_user user ≡ true
named_is_user host resource [] user all is = absurd (cc)
named_is_user host resource (first ∷ users) user all is =
    let parts = and_parts (is_user first) (list_all is_user users) all in
    ⊎_elim (λ same. ap is_user (sym same) ∙ parts.0) (λ later. named_is_user host resource users user parts.1 later)
    (named_by (is_named_host host (host_named first resource)) (user_named host resource users) first user is)

-- a resource names one user at most
same_tail : (xs ys : List ℕ) → codes "acct:" ++ xs ≡ codes "acct:" ++ ys → xs ≡ ys
same_tail xs ys is = cc

one_user : (user host other named : List ℕ) → is_user user ≡ true → is_user other ≡ true → host_named other (account_uri user host) ≡ Some named → other ≡ user
one_user user host other named is is_other at =
    let tails : user ++ 64 ∷ host ≡ other ++ 64 ∷ named = same_tail (user ++ 64 ∷ host) (other ++ 64 ∷ named) (uri_of-host_named other named (account_uri user host) at) in
    sym (split_once_before_at 64 other named (user_without_at other is_other)) ∙ ap (λ (xs : List ℕ). (split_once 64 xs).0) (sym tails)
    ∙ split_once_before_at 64 user host (user_without_at user is)

is_named_by : (o : Option (List ℕ)) (host : List ℕ) → is_named_host host o ≡ true → (named : List ℕ) × (o ≡ Some named)
is_named_by None host is = absurd (cc)
is_named_by (Some named) host is = (named, refl)

own_host : (user host : List ℕ) → is_named_host host (host_named user (account_uri user host)) ≡ true
own_host user host = ap (is_named_host host) (host_named-uri user host) ∙ (bytes_eq-Decides (map to_ascii_lowercase host) (map to_ascii_lowercase host)).1 refl

among_others : (same : Bool) (user host first : List ℕ) (users : List (List ℕ)) → bytes_eq user first ≡ same
    → is_named_host host (host_named first (account_uri user host)) ≡ false → list_any (bytes_eq user) (first ∷ users) ≡ true
    → list_any (bytes_eq user) users ≡ true
among_others true user host first users same at among =
    let equal = (bytes_eq-Decides user first).0 same in
    let own : is_named_host host (host_named first (account_uri user host)) ≡ true =
    ap (λ (xs : List ℕ). is_named_host host (host_named xs (account_uri user host))) (sym equal) ∙ own_host user host in
    absurd (cc)
among_others false user host first users same at among = rw same at among

first_by : (test : Bool) (host user first : List ℕ) (users : List (List ℕ)) → is_named_host host (host_named first (account_uri user host)) ≡ test
    → is_user user ≡ true → is_user first ≡ true → list_any (bytes_eq user) (first ∷ users) ≡ true
    → (list_any (bytes_eq user) users ≡ true → user_named host (account_uri user host) users ≡ Some user)
    → cond test (Some first) (user_named host (account_uri user host) users) ≡ Some user
first_by true host user first users at is is_first among later =
    let named = is_named_by (host_named first (account_uri user host)) host at in
    ap (λ (xs : List ℕ). Some xs) (one_user user host first named.0 is is_first named.1)
first_by false host user first users at is is_first among later = later (among_others (bytes_eq user first) user host first users refl at among)

pub named_own : (host user : List ℕ) (users : List (List ℕ)) → is_user user ≡ true → list_all is_user users ≡ true
    → list_any (bytes_eq user) users ≡ true → user_named host (account_uri user host) users ≡ Some user
named_own host user [] is all among = absurd (cc)
named_own host user (first ∷ users) is all among =
    let parts = and_parts (is_user first) (list_all is_user users) all in
    first_by (is_named_host host (host_named first (account_uri user host))) host user first users refl is parts.0 among
    (λ later. named_own host user users is parts.1 later)
