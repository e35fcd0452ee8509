-- The row that is made for a request, and the record that its turn may keep.
use Rattle.std.proofs.Common.{◌≡◌, ℕ, ◌≤◌, true, false, not, cond, List, length, Some, None, Option, Ok, arith, refl, sym, ap, ◌∙◌, subst, Bor}
use Rattle.std.specs.Prelude.{nat_le, is_some, IsSome, IfSome, option_copied, option_map}
use Rattle.std.specs.Option.{option_and_then}
use Rattle.std.proofs.lemmas.Bool.{and_parts, and_from, cond-true}
use Rattle.std.proofs.lemmas.Bool.Decides.{nat_tests}
use Rattle.std.proofs.lemmas.Option.{same_Some}
use Rattle.rs_path.specs.Paths.{Path}
use Rattle.rs_record.specs.declared.records.Record.{Record}
use Rattle.rs_record.specs.declared.records.Record.TheVariants.{Put, Remove, Grant, Revoke}
use Rattle.rs_record.specs.Records.{body_limit, has_parts, is_record}
use Rattle.rs_record.specs.Rows.{spelling}
use Rattle.rs_record.specs.RowReadings.{record_reading}
use Rattle.rs_rules.specs.declared.request.Request.{Request}
use Rattle.rs_rules.specs.Histories.{History}
use Rattle.rs_rules.specs.Documents.{docs}
use Rattle.rs_rules.specs.Snapshots.{snapshot}
use Rattle.rs_rules.specs.Answers.{brought}
use Rattle.rs_rules.specs.Lawful.{may_follow}
use Rattle.rs_rules.specs.Sound.{are_documents}
use Rattle.rs_user.specs.Preparations.{is_worth_a_row, record_to_keep, IsRowOf, IsMadeFor}
use Rattle.rs_user.proofs.MayLemmas.{document_there}

-- a document within the limit, which a token writes, is put by a record
pub put_is_record : (path : Path) (kind body writer : List ℕ) → has_parts (Put path kind body (Some writer)) ≡ true → path.folder ≡ false
    → length body ≤ body_limit (Some writer) → is_record (Put path kind body (Some writer)) ≡ true
put_is_record path kind body writer parts document short =
    let fits : nat_le (length body) (body_limit (Some writer)) ≡ true = grind (arith, nat_tests, short) in
    and_from (has_parts (Put path kind body (Some writer))) _ parts (and_from (not path.folder) _ (ap not document) fits)

-- where a row is borrowed, one is there
pub is_there : {X : Type 0} (made : Option (Bor X)) (x : X) → option_copied made ≡ Some x → IsSome made
is_there None x is = absurd (cc)
is_there (Some row) x is = refl

-- the row that was made for a request, of which the turn keeps the record
pub kept_row : (made : Option (Bor (List ℕ))) (r : Request) (what : Record) → IsMadeFor (option_copied made) r → record_to_keep r ≡ Some what
    → IsSome made × ((row : Bor (List ℕ)) → made ≡ Some row → IsRowOf row.now what)
kept_row made r what is keeps =
    let row_is : option_copied made ≡ Some (spelling what) = is.row ∙ ap (option_map spelling) keeps in
    let back : record_reading (spelling what) ≡ Ok what = subst (λ o. IfSome o (λ it. record_reading (spelling it) ≡ Ok it)) keeps is.back in (
      is_there made (spelling what) row_is,
      λ row there. record { spelled = same_Some row.now (spelling what) (sym (ap option_copied there) ∙ row_is); back = back },
    )

-- a write that may follow is of a document
worth : (h : History) (what : Record) → may_follow (snapshot h) what ≡ true → are_documents (docs h) ≡ true
    → ((path : Path) (kind body : List ℕ) (writer : Option (List ℕ)) → what ≡ Put path kind body writer → is_some writer ≡ true)
    → ((path : Path) (writer : Option (List ℕ)) → what ≡ Remove path writer → is_some writer ≡ true) → is_worth_a_row what ≡ true
worth h (Put path kind body writer) may documents by_put by_remove =
    and_from (not path.folder) (is_some writer) (and_parts (not path.folder) _ may).0 (by_put path kind body writer refl)
worth h (Remove path writer) may documents by_put by_remove =
    and_from (not path.folder) (is_some writer) (ap not (document_there path (docs h) documents (and_parts _ _ may).0)) (by_remove path writer refl)
worth h (Grant token scopes) may documents by_put by_remove = refl
worth h (Revoke token) may documents by_put by_remove = refl

-- a record that is brought and may follow, and that a token writes where it is a write, is worth a row
pub taken_row : (h : History) (r : Request) (what : Record) → brought r ≡ Some what → may_follow (snapshot h) what ≡ true → are_documents (docs h) ≡ true
    → ((path : Path) (kind body : List ℕ) (writer : Option (List ℕ)) → what ≡ Put path kind body writer → is_some writer ≡ true)
    → ((path : Path) (writer : Option (List ℕ)) → what ≡ Remove path writer → is_some writer ≡ true) → record_to_keep r ≡ Some what
taken_row h r what brings may documents by_put by_remove =
    ap (option_and_then (λ it. cond (is_worth_a_row it) (Some it) None)) brings
    ∙ cond-true (is_worth_a_row what) (Some what) None (worth h what may documents by_put by_remove)
