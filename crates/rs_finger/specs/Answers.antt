-- What a discovery query is answered: a text, or why there is none (RFC 7033, sections 4.2 and 4.3).
use Rattle.std.specs.Prelude.{◌≡◌, ℕ, Bool, true, List, [], ◌∷◌, ◌++◌, not, Option, Some, None, Result, Ok, Err, String, codes, string_bytes, if◌then◌else◌}
use Rattle.std.specs.List.{list_any}
use Rattle.std.specs.Str.{bytes_eq, is_utf8}
use Rattle.std.specs.declared.alloc.Global.{Global}
use Rattle.rs_form.specs.Fields.{form_values}
use Rattle.rs_finger.specs.Accounts.{is_uri, user_named}
use Rattle.rs_finger.specs.Jrds.{storage_rel, jrd_text}
use Rattle.rs_finger.specs.declared.finger_fault.FingerFault.{FingerFault}
use Rattle.rs_finger.specs.declared.finger_fault.FingerFault.TheVariants.{NoResource, BadResource, Unknown, NoLink, NoMemory}

-- the link of a storage is among those that are asked for: all, where no `rel` is
abbrev pub is_wanted : List (List ℕ) → Bool
is_wanted [] = true
is_wanted (rel ∷ rels) = list_any (λ wanted. bytes_eq wanted storage_rel) (rel ∷ rels)

abbrev pub user_answer : List ℕ → List ℕ → Bool → Option (List ℕ) → Result (List ℕ) FingerFault
user_answer base host linked None = Err Unknown
user_answer base host linked (Some user) = Ok (jrd_text linked base user host)

-- a resource that is no URI, one that names no user here, and the answer for the user; a host that isn't UTF-8 is
-- named by no resource
abbrev pub resource_answer : List ℕ → List ℕ → List (List ℕ) → Bool → List ℕ → Result (List ℕ) FingerFault
resource_answer base host users linked resource =
    if not (is_uri resource) then Err BadResource
    else (if is_utf8 host then user_answer base host linked (user_named host resource users) else Err Unknown)

-- no resource, one, and several
abbrev pub resources_answer : List ℕ → List ℕ → List (List ℕ) → Bool → List (List ℕ) → Result (List ℕ) FingerFault
resources_answer base host users linked [] = Err NoResource
resources_answer base host users linked (resource ∷ []) = resource_answer base host users linked resource
resources_answer base host users linked (resource ∷ other ∷ others) = Err BadResource

abbrev pub finger_answer : List ℕ → List ℕ → List (List ℕ) → List ℕ → Result (List ℕ) FingerFault
finger_answer base host users query =
    resources_answer base host users (is_wanted (form_values (codes "rel") query)) (form_values (codes "resource") query)

-- the call gave this text, or memory ran out
abbrev pub GivesText : Result (String Global) FingerFault → Result (List ℕ) FingerFault → Type 0
GivesText (Ok text) wanted = wanted ≡ Ok (string_bytes text)
GivesText (Err NoResource) wanted = wanted ≡ Err NoResource
GivesText (Err BadResource) wanted = wanted ≡ Err BadResource
GivesText (Err Unknown) wanted = wanted ≡ Err Unknown
GivesText (Err NoLink) wanted = ⊥
GivesText (Err NoMemory) wanted = Unit {0}

-- the call appended this text, or appended nothing and said why, or memory ran out
abbrev pub AnswersFinger : {X : Type 0} → Result X FingerFault → List ℕ → List ℕ → Result (List ℕ) FingerFault → Type 0
AnswersFinger (Ok _) old new wanted = (text : List ℕ) × (wanted ≡ Ok text) × (new ≡ old ++ text)
AnswersFinger (Err NoResource) old new wanted = (wanted ≡ Err NoResource) × (new ≡ old)
AnswersFinger (Err BadResource) old new wanted = (wanted ≡ Err BadResource) × (new ≡ old)
AnswersFinger (Err Unknown) old new wanted = (wanted ≡ Err Unknown) × (new ≡ old)
AnswersFinger (Err NoLink) old new wanted = ⊥
AnswersFinger (Err NoMemory) old new wanted = new ≡ old
