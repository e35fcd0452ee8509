-- The fifteen steps of the answer: each step reached, and each with a later one that applies too, where there can be one.
-- The tests have the same cases under the same names.
use Rattle.std.proofs.Common.{◌≡◌, ℕ, Bool, true, false, List, [], ◌∷◌, take, Option, Some, None, refl, ap}
use Rattle.std.specs.Prelude.{codes, nat_le, nat_lt, unwrap_or, option_map}
use Rattle.std.specs.Option.{option_or}
use Rattle.std.specs.Fmt.{digits}
use Rattle.rs_path.specs.declared.entry.Entry.{Entry}
use Rattle.rs_path.specs.Paths.{Path, folder_at}
use Rattle.rs_path.specs.declared.log_entry.LogEntry.{LogEntry}
use Rattle.rs_scope.specs.declared.method.Method.{Method}
use Rattle.rs_scope.specs.declared.method.Method.TheVariants.{Get, Head, Put, Delete}
use Rattle.rs_scope.specs.declared.scope.Reach.TheVariants.{Module, Star}
use Rattle.rs_scope.specs.declared.scope.Scope.{Scope}
use Rattle.rs_record.specs.declared.records.Record.TheVariants.{Put as PutRecord, Remove as RemoveRecord, Grant as GrantRecord, Revoke as RevokeRecord}
use Rattle.rs_record.specs.declared.records.Record.{Record}
use Rattle.rs_rules.specs.declared.call.Call.{Call}
use Rattle.rs_rules.specs.declared.cond.Cond.{Cond}
use Rattle.rs_rules.specs.declared.cond.Cond.TheVariants.{Missing as Unconditional, Any, Tags}
use Rattle.rs_rules.specs.declared.pass.Pass.{Pass}
use Rattle.rs_rules.specs.declared.pass.Pass.TheVariants.{Missing, Strange, Known}
use Rattle.rs_rules.specs.declared.reply.Reply.{Reply}
use Rattle.rs_rules.specs.declared.reply.Reply.TheVariants.{Found, Folder, Stored, Removed, Same, NoToken, BadToken, Forbidden, FolderWrite, Clash, Absent, Unmet, RecordsFull, OverQuota, FolderFull, Granted, TokenTaken, Revoked, NotGranted}
use Rattle.rs_rules.specs.declared.request.Request.{Request}
use Rattle.rs_rules.specs.declared.request.Request.TheVariants.{Store, Grant, Revoke}
use Rattle.rs_rules.specs.Limits.{max_len}
use Rattle.rs_rules.specs.Histories.{History, len}
use Rattle.rs_rules.specs.Documents.{docs, live_in}
use Rattle.rs_rules.specs.Clashes.{full_in}
use Rattle.rs_rules.specs.Snapshots.{snapshot}
use Rattle.rs_rules.specs.Answers.{answer, live_after, when, first_of, early_steps, limit_steps, last_step}
use Rattle.rs_rules_tests.proofs.Samples.{token, plain, doc, ask, strong, weak, ample, root, hello}

-- ---- histories

abbrev reader_token : List ℕ
reader_token = codes "0000000000000002"

abbrev former_token : List ℕ
former_token = codes "0000000000000003"

abbrev stranger_token : List ℕ
stranger_token = codes "0000000000000004"

abbrev owner : Pass
owner = Known token

abbrev reader : Pass
reader = Known reader_token

abbrev former : Pass
former = Known former_token

abbrev stranger : Pass
stranger = Known stranger_token

abbrev x : Path
x = doc (codes "x" ∷ [])

abbrev y : Path
y = doc (codes "y" ∷ [])

abbrev public_n_folder : Path
public_n_folder = folder_at (codes "public" ∷ codes "n" ∷ [])

abbrev public : Path
public = doc (codes "public" ∷ [])

abbrev public_n_d : Path
public_n_d = doc (codes "public" ∷ codes "n" ∷ codes "d" ∷ [])

abbrev a_folder : Path
a_folder = folder_at (codes "a" ∷ [])

abbrev a : Path
a = doc (codes "a" ∷ [])

abbrev public_n_e : Path
public_n_e = doc (codes "public" ∷ codes "n" ∷ codes "e" ∷ [])

abbrev x_y : Path
x_y = doc (codes "x" ∷ codes "y" ∷ [])

abbrev notes_q : Path
notes_q = doc (codes "notes" ∷ codes "q" ∷ [])

abbrev public_folder : Path
public_folder = folder_at (codes "public" ∷ [])

abbrev notes2_folder : Path
notes2_folder = folder_at (codes "notes2" ∷ [])

abbrev notes : Path
notes = doc (codes "notes" ∷ [])

abbrev notes_folder : Path
notes_folder = folder_at (codes "notes" ∷ [])

abbrev public_notes_folder : Path
public_notes_folder = folder_at (codes "public" ∷ codes "notes" ∷ [])

abbrev z_folder : Path
z_folder = folder_at (codes "z" ∷ [])

abbrev x_y_folder : Path
x_y_folder = folder_at (codes "x" ∷ codes "y" ∷ [])

abbrev x_y_z : Path
x_y_z = doc (codes "x" ∷ codes "y" ∷ codes "z" ∷ [])

abbrev a_b_c : Path
a_b_c = doc (codes "a" ∷ codes "b" ∷ codes "c" ∷ [])

abbrev a_b : Path
a_b = doc (codes "a" ∷ codes "b" ∷ [])

abbrev public_n : Path
public_n = doc (codes "public" ∷ codes "n" ∷ [])

abbrev gone : Path
gone = doc (codes "gone" ∷ [])

abbrev gone_g_h : Path
gone_g_h = doc (codes "gone" ∷ codes "g" ∷ codes "h" ∷ [])

abbrev gone_g : Path
gone_g = doc (codes "gone" ∷ codes "g" ∷ [])

abbrev gone_folder : Path
gone_folder = folder_at (codes "gone" ∷ [])

abbrev x_folder : Path
x_folder = folder_at (codes "x" ∷ [])

abbrev a_c : Path
a_c = doc (codes "a" ∷ codes "c" ∷ [])

abbrev ten : List ℕ
ten = codes "0123456789"

abbrev eleven : List ℕ
eleven = codes "0123456789a"

abbrev star : List Scope
star = record { reach = Star; write = true } ∷ []

-- The owner may all, and the reader may read notes. Left are three documents of 5, 10 and 5 bytes, `/a/b`, `/x` and
-- `/public/n/d`, with the numbers 6, 4 and 5; `/gone/g` was removed by record 8, and a third token granted and revoked.
abbrev story : List (LogEntry Record)
story = record { who = 0; what = GrantRecord token star }
    ∷ record { who = 0; what = GrantRecord reader_token (record { reach = Module (codes "notes"); write = false } ∷ []) }
    ∷ record { who = 1; what = PutRecord a_b plain (codes "first") None }
    ∷ record { who = 1; what = PutRecord x plain ten None }
    ∷ record { who = 1; what = PutRecord public_n_d plain hello None }
    ∷ record { who = 1; what = PutRecord a_b plain hello None }
    ∷ record { who = 1; what = PutRecord gone_g plain hello None }
    ∷ record { who = 1; what = RemoveRecord gone_g None }
    ∷ record { who = 0; what = GrantRecord former_token star }
    ∷ record { who = 0; what = RevokeRecord former_token } ∷ []

-- the story after records that left nothing
abbrev story_after : ℕ → History
story_after cut = record { base = record { cut = cut; docs = []; versions = λ folder. 0; tokens = λ token. None }; entries = story }

abbrev h : History
h = story_after 0

-- the story up to the greatest number of records
abbrev at_end : History
at_end = story_after 4294967285

-- one record fewer
abbrev near_end : History
near_end = story_after 4294967284

-- ---- requests and items

-- without conditions
abbrev bare : Method → Path → Pass → List ℕ → Request
bare method path pass body = ask method path pass Unconditional Unconditional body

abbrev folder_item : List ℕ → List ℕ → Entry
folder_item name tag = record { name = name; folder = true; tag = tag; kind = None; length = None }

abbrev document_item : List ℕ → List ℕ → ℕ → Entry
document_item name tag length = record { name = name; folder = false; tag = tag; kind = Some plain; length = Some length }

-- ---- 12, of any history: fifty thousand documents are too many to compute with

abbrev put_call : Path → Pass → Cond → Cond → List ℕ → Call
put_call path pass if_match if_none body =
    record { method = Put; path = path; pass = pass; if_match = if_match; if_none = if_none; kind = plain; body = body }

limit_replies : (early limit : Option Reply) (last reply : Reply) → early ≡ None → limit ≡ Some reply
    → unwrap_or (option_or early limit) last ≡ reply
limit_replies None limit last reply none some = ap (λ o. unwrap_or o last) some
limit_replies (Some r) limit last reply none some = absurd (cc)

early_replies : (early limit : Option Reply) (last reply : Reply) → early ≡ Some reply → unwrap_or (option_or early limit) last ≡ reply
early_replies early limit last reply some = ap (λ o. unwrap_or (option_or o limit) last) some

third_limit : (records over : Bool) (live count : ℕ) (f : ℕ → Reply) (full : Option ℕ) → records ≡ false → over ≡ false → full ≡ Some count
    → first_of (when records RecordsFull ∷ when over (OverQuota live) ∷ option_map f full ∷ []) ≡ Some (f count)
third_limit true over live count f full room fits there = absurd (cc)
third_limit false true live count f full room fits there = absurd (cc)
third_limit false false live count f full room fits there = ap (λ o. option_or (option_map f o) None) there

second_limit : (records over : Bool) (live : ℕ) (rest : List (Option Reply)) → records ≡ false → over ≡ true
    → first_of (when records RecordsFull ∷ when over (OverQuota live) ∷ rest) ≡ Some (OverQuota live)
second_limit true over live rest room above = absurd (cc)
second_limit false true live rest room above = refl
second_limit false false live rest room above = absurd (cc)

first_limit : (records : Bool) (rest : List (Option Reply)) → records ≡ true → first_of (when records RecordsFull ∷ rest) ≡ Some RecordsFull
first_limit true rest above = refl
first_limit false rest above = absurd (cc)

module _ (g : History) (quota : ℕ) (path : Path) (pass : Pass) (if_match if_none : Cond) (body : List ℕ) where
  abbrev call : Call
  call = put_call path pass if_match if_none body

  -- where none of 1 to 11 applies, the reply is the first folder without room, from `/` down
  folder_full_before_stored : (count : ℕ) → first_of (early_steps (snapshot g) call) ≡ None → nat_le max_len (len g) ≡ false
      → nat_lt quota (live_after (snapshot g) call) ≡ false → full_in (docs g) path ≡ Some count
      → answer g quota (Store call) ≡ FolderFull (folder_at (take count path.names))
  folder_full_before_stored count early room fits full =
      limit_replies (first_of (early_steps (snapshot g) call)) (first_of (limit_steps (snapshot g) quota call)) (last_step (snapshot g) call Put)
      (FolderFull (folder_at (take count path.names))) early
      (third_limit (nat_le max_len (len g)) (nat_lt quota (live_after (snapshot g) call)) (live_in (docs g)) count
      (λ k. FolderFull (folder_at (take k path.names))) (full_in (docs g) path) room fits full)

  over_quota_before_folder_full : (count : ℕ) → first_of (early_steps (snapshot g) call) ≡ None → nat_le max_len (len g) ≡ false
      → nat_lt quota (live_after (snapshot g) call) ≡ true → full_in (docs g) path ≡ Some count
      → answer g quota (Store call) ≡ OverQuota (live_in (docs g))
  over_quota_before_folder_full count early room above full =
      limit_replies (first_of (early_steps (snapshot g) call)) (first_of (limit_steps (snapshot g) quota call)) (last_step (snapshot g) call Put)
      (OverQuota (live_in (docs g))) early
      (second_limit (nat_le max_len (len g)) (nat_lt quota (live_after (snapshot g) call)) (live_in (docs g))
      (option_map (λ k. FolderFull (folder_at (take k path.names))) (full_in (docs g) path) ∷ []) room above)

  records_full_before_folder_full : (count : ℕ) → first_of (early_steps (snapshot g) call) ≡ None → nat_le max_len (len g) ≡ true
      → full_in (docs g) path ≡ Some count → answer g quota (Store call) ≡ RecordsFull
  records_full_before_folder_full count early above full =
      limit_replies (first_of (early_steps (snapshot g) call)) (first_of (limit_steps (snapshot g) quota call)) (last_step (snapshot g) call Put)
      RecordsFull early
      (first_limit (nat_le max_len (len g)) (when (nat_lt quota (live_after (snapshot g) call)) (OverQuota (live_in (docs g)))
      ∷ option_map (λ k. FolderFull (folder_at (take k path.names))) (full_in (docs g) path) ∷ []) above)

  early_step_before_folder_full : (count : ℕ) (reply : Reply) → first_of (early_steps (snapshot g) call) ≡ Some reply
      → full_in (docs g) path ≡ Some count → answer g quota (Store call) ≡ reply
  early_step_before_folder_full count reply early full =
      early_replies (first_of (early_steps (snapshot g) call)) (first_of (limit_steps (snapshot g) quota call)) (last_step (snapshot g) call Put)
      reply early

-- ---- the table

-- 1, alone and before 4 to 7 and 9. It and 2 can't both apply, since a request brings one token at most; nor it and 3.
get_without_token : answer h ample (bare Get x Missing []) ≡ NoToken
get_without_token = refl

head_of_root_without_token : answer h ample (bare Head root Missing []) ≡ NoToken
head_of_root_without_token = refl

put_without_token : answer h ample (bare Put y Missing hello) ≡ NoToken
put_without_token = refl

delete_without_token : answer h ample (bare Delete x Missing []) ≡ NoToken
delete_without_token = refl

public_folder_needs_a_token : answer h ample (bare Get public_n_folder Missing []) ≡ NoToken
public_folder_needs_a_token = refl

name_public_alone_needs_a_token : answer h ample (bare Get public Missing []) ≡ NoToken
name_public_alone_needs_a_token = refl

public_put_needs_a_token : answer h ample (bare Put public_n_d Missing hello) ≡ NoToken
public_put_needs_a_token = refl

public_delete_needs_a_token : answer h ample (bare Delete public_n_d Missing []) ≡ NoToken
public_delete_needs_a_token = refl

no_token_before_folder_write : answer h ample (bare Put a_folder Missing hello) ≡ NoToken
no_token_before_folder_write = refl

no_token_before_clash : answer h ample (bare Put a Missing hello) ≡ NoToken
no_token_before_clash = refl

no_token_before_absent : answer h ample (bare Get y Missing []) ≡ NoToken
no_token_before_absent = refl

no_token_before_unmet : answer h ample (ask Get x Missing (Tags (strong (codes "9") ∷ [])) Unconditional []) ≡ NoToken
unfolding digits
no_token_before_unmet = refl

no_token_before_same : answer h ample (ask Get x Missing Unconditional (Tags (strong (codes "4") ∷ [])) []) ≡ NoToken
unfolding digits
no_token_before_same = refl

-- Free reads go past 1 to 3, whatever they bring, and meet 6, 7, 9 and 13.
free_read_without_token : answer h ample (bare Get public_n_d Missing []) ≡ Found 5 plain hello
free_read_without_token = refl

free_read_with_a_strange_token : answer h ample (bare Head public_n_d Strange []) ≡ Found 5 plain hello
free_read_with_a_strange_token = refl

free_read_with_an_unknown_token : answer h ample (bare Get public_n_d stranger []) ≡ Found 5 plain hello
free_read_with_an_unknown_token = refl

free_read_with_a_revoked_token : answer h ample (bare Get public_n_d former []) ≡ Found 5 plain hello
free_read_with_a_revoked_token = refl

free_read_beyond_the_scopes : answer h ample (bare Get public_n_d reader []) ≡ Found 5 plain hello
free_read_beyond_the_scopes = refl

free_read_of_what_is_absent : answer h ample (bare Get public_n_e Missing []) ≡ Absent
free_read_of_what_is_absent = refl

free_read_unmet : answer h ample (ask Get public_n_d Strange (Tags (strong (codes "4") ∷ [])) Unconditional []) ≡ Unmet
unfolding digits
free_read_unmet = refl

free_read_same : answer h ample (ask Get public_n_d Missing Unconditional (Tags (strong (codes "5") ∷ [])) []) ≡ Same 5
unfolding digits
free_read_same = refl

-- 2, alone and before 4 to 7 and 9. It and 3 can't both apply: a token that isn't granted has no scopes.
strange_token : answer h ample (bare Get x Strange []) ≡ BadToken
strange_token = refl

token_never_granted : answer h ample (bare Get x stranger []) ≡ BadToken
token_never_granted = refl

token_revoked : answer h ample (bare Get x former []) ≡ BadToken
token_revoked = refl

bad_token_before_folder_write : answer h ample (bare Put a_folder Strange hello) ≡ BadToken
bad_token_before_folder_write = refl

bad_token_before_clash : answer h ample (bare Put x_y stranger hello) ≡ BadToken
bad_token_before_clash = refl

bad_token_before_absent : answer h ample (bare Delete y former []) ≡ BadToken
bad_token_before_absent = refl

bad_token_before_unmet : answer h ample (ask Put x Strange (Tags (strong (codes "9") ∷ [])) Unconditional hello) ≡ BadToken
unfolding digits
bad_token_before_unmet = refl

bad_token_before_same : answer h ample (ask Get x former Unconditional Any []) ≡ BadToken
bad_token_before_same = refl

-- 3, alone and before 4 to 7 and 9; and what the scopes do reach.
scopes_of_another_module : answer h ample (bare Get x reader []) ≡ Forbidden
scopes_of_another_module = refl

scopes_that_only_read : answer h ample (bare Put notes_q reader hello) ≡ Forbidden
scopes_that_only_read = refl

scopes_below_root : answer h ample (bare Get root reader []) ≡ Forbidden
scopes_below_root = refl

scopes_below_public : answer h ample (bare Get public_folder reader []) ≡ Forbidden
scopes_below_public = refl

scopes_of_whole_names : answer h ample (bare Get notes2_folder reader []) ≡ Forbidden
scopes_of_whole_names = refl

name_of_the_module_alone : answer h ample (bare Get notes reader []) ≡ Forbidden
name_of_the_module_alone = refl

folder_of_the_module : answer h ample (bare Get notes_folder reader []) ≡ Folder 0 []
folder_of_the_module = refl

public_folder_of_the_module : answer h ample (bare Get public_notes_folder reader []) ≡ Folder 0 []
public_folder_of_the_module = refl

within_the_module : answer h ample (bare Get notes_q reader []) ≡ Absent
within_the_module = refl

forbidden_before_folder_write : answer h ample (bare Put notes_folder reader hello) ≡ Forbidden
forbidden_before_folder_write = refl

forbidden_before_clash : answer h ample (bare Put a reader hello) ≡ Forbidden
forbidden_before_clash = refl

forbidden_before_absent : answer h ample (bare Get y reader []) ≡ Forbidden
forbidden_before_absent = refl

forbidden_before_unmet : answer h ample (ask Get x reader (Tags (strong (codes "9") ∷ [])) Unconditional []) ≡ Forbidden
unfolding digits
forbidden_before_unmet = refl

forbidden_before_same : answer h ample (ask Get x reader Unconditional (Tags (strong (codes "4") ∷ [])) []) ≡ Forbidden
unfolding digits
forbidden_before_same = refl

-- 4, alone and before 5, 7 and 8. It and 6 can't both apply: 6 is of documents.
put_of_a_folder : answer h ample (bare Put z_folder owner hello) ≡ FolderWrite
put_of_a_folder = refl

put_of_root : answer h ample (bare Put root owner hello) ≡ FolderWrite
put_of_root = refl

delete_of_a_folder : answer h ample (bare Delete a_folder owner []) ≡ FolderWrite
delete_of_a_folder = refl

delete_of_an_absent_folder : answer h ample (bare Delete z_folder owner []) ≡ FolderWrite
delete_of_an_absent_folder = refl

folder_write_before_clash_with_a_folder : answer h ample (bare Put a_folder owner hello) ≡ FolderWrite
folder_write_before_clash_with_a_folder = refl

folder_write_before_clash_with_a_document : answer h ample (bare Put x_y_folder owner hello) ≡ FolderWrite
folder_write_before_clash_with_a_document = refl

folder_write_before_unmet : answer h ample (ask Put a_folder owner (Tags (strong (codes "9") ∷ [])) Unconditional hello) ≡ FolderWrite
unfolding digits
folder_write_before_unmet = refl

folder_write_before_unmet_by_none : answer h ample (ask Delete a_folder owner Unconditional Any []) ≡ FolderWrite
folder_write_before_unmet_by_none = refl

-- 5, alone and before 7 and 11. It and 6 can't both apply, since 5 is of a Put alone; nor it and 8: where it applies no document is there.
clash_with_a_document : answer h 20 (bare Put x_y owner []) ≡ Clash x
clash_with_a_document = refl

clash_with_a_document_far_above : answer h 20 (bare Put x_y_z owner []) ≡ Clash x
clash_with_a_document_far_above = refl

clash_with_a_document_in_a_folder : answer h 20 (bare Put a_b_c owner []) ≡ Clash a_b
clash_with_a_document_in_a_folder = refl

clash_with_a_folder : answer h 20 (bare Put a owner []) ≡ Clash a_folder
clash_with_a_folder = refl

clash_with_a_folder_in_a_folder : answer h 20 (bare Put public_n owner []) ≡ Clash public_n_folder
clash_with_a_folder_in_a_folder = refl

no_clash_with_an_emptied_folder : answer h 20 (bare Put gone owner []) ≡ Stored 11 true
no_clash_with_an_emptied_folder = refl

no_clash_with_a_removed_document : answer h 20 (bare Put gone_g_h owner []) ≡ Stored 11 true
no_clash_with_a_removed_document = refl

clash_before_unmet : answer h 20 (ask Put x_y owner (Tags (strong (codes "9") ∷ [])) Unconditional []) ≡ Clash x
unfolding digits
clash_before_unmet = refl

clash_before_unmet_by_any : answer h 20 (ask Put a owner Any Any []) ≡ Clash a_folder
clash_before_unmet_by_any = refl

clash_before_over_quota : answer h 20 (bare Put x_y owner hello) ≡ Clash x
clash_before_over_quota = refl

-- 6, alone and before 7. It and 8 or 9 can't both apply: If-None-Match names only what is there.
get_of_an_absent_document : answer h ample (bare Get y owner []) ≡ Absent
get_of_an_absent_document = refl

head_of_an_absent_document : answer h ample (bare Head y owner []) ≡ Absent
head_of_an_absent_document = refl

delete_of_an_absent_document : answer h ample (bare Delete y owner []) ≡ Absent
delete_of_an_absent_document = refl

document_with_the_names_of_a_folder : answer h ample (bare Get a owner []) ≡ Absent
document_with_the_names_of_a_folder = refl

document_below_a_document : answer h ample (bare Get x_y owner []) ≡ Absent
document_below_a_document = refl

document_that_was_removed : answer h ample (bare Get gone_g owner []) ≡ Absent
document_that_was_removed = refl

second_delete : answer h ample (bare Delete gone_g owner []) ≡ Absent
second_delete = refl

absent_before_unmet : answer h ample (ask Delete y owner (Tags (strong (codes "9") ∷ [])) Unconditional []) ≡ Absent
unfolding digits
absent_before_unmet = refl

absent_before_unmet_by_any : answer h ample (ask Get y owner Any Any []) ≡ Absent
absent_before_unmet_by_any = refl

-- 7, alone and before 8, 9 and 11. It and 8 have one reply, so their order shows nowhere.
match_of_another_version : answer h 20 (ask Put x owner (Tags (strong (codes "9") ∷ [])) Unconditional ten) ≡ Unmet
unfolding digits
match_of_another_version = refl

match_by_a_weak_tag : answer h 20 (ask Put x owner (Tags (weak (codes "4") ∷ [])) Unconditional ten) ≡ Unmet
unfolding digits
match_by_a_weak_tag = refl

match_of_any_where_none_is : answer h 20 (ask Put y owner Any Unconditional []) ≡ Unmet
match_of_any_where_none_is = refl

match_of_no_tag : answer h 20 (ask Delete x owner (Tags []) Unconditional []) ≡ Unmet
match_of_no_tag = refl

match_of_a_folder : answer h 20 (ask Get a_folder owner (Tags (strong (codes "9") ∷ [])) Unconditional []) ≡ Unmet
unfolding digits
match_of_a_folder = refl

match_of_one_in_a_list : answer h 20 (ask Put x owner (Tags (strong (codes "9") ∷ strong (codes "4") ∷ [])) Unconditional ten) ≡ Stored 11 false
unfolding digits
match_of_one_in_a_list = refl

match_of_any : answer h 20 (ask Put x owner Any Unconditional ten) ≡ Stored 11 false
match_of_any = refl

match_of_version_of_a_folder : answer h 20 (ask Get gone_folder owner (Tags (strong (codes "0") ∷ [])) Unconditional []) ≡ Folder 0 []
unfolding digits
match_of_version_of_a_folder = refl

unmet_by_both : answer h 20 (ask Put x owner (Tags (strong (codes "9") ∷ [])) (Tags (strong (codes "4") ∷ [])) ten) ≡ Unmet
unfolding digits
unmet_by_both = refl

unmet_before_same : answer h 20 (ask Get x owner (Tags (strong (codes "9") ∷ [])) Any []) ≡ Unmet
unfolding digits
unmet_before_same = refl

unmet_before_over_quota : answer h 20 (ask Put x owner (Tags (strong (codes "9") ∷ [])) Unconditional eleven) ≡ Unmet
unfolding digits
unmet_before_over_quota = refl

-- 8, alone and before 11. It and 9 can't both apply: 8 is of writing, 9 of reading.
none_match_of_any : answer h 20 (ask Put x owner Unconditional Any ten) ≡ Unmet
none_match_of_any = refl

none_match_by_a_weak_tag : answer h 20 (ask Put x owner Unconditional (Tags (weak (codes "4") ∷ [])) ten) ≡ Unmet
unfolding digits
none_match_by_a_weak_tag = refl

none_match_of_a_delete : answer h 20 (ask Delete x owner Unconditional (Tags (strong (codes "4") ∷ [])) []) ≡ Unmet
unfolding digits
none_match_of_a_delete = refl

none_match_behind_a_match : answer h 20 (ask Put x owner (Tags (strong (codes "4") ∷ [])) (Tags (strong (codes "4") ∷ [])) ten) ≡ Unmet
unfolding digits
none_match_behind_a_match = refl

none_match_of_another_version : answer h 20 (ask Put x owner Unconditional (Tags (strong (codes "9") ∷ [])) ten) ≡ Stored 11 false
unfolding digits
none_match_of_another_version = refl

none_match_of_any_where_none_is : answer h 20 (ask Put y owner Unconditional Any []) ≡ Stored 11 true
none_match_of_any_where_none_is = refl

unmet_by_none_before_over_quota : answer h 20 (ask Put x owner Unconditional Any eleven) ≡ Unmet
unmet_by_none_before_over_quota = refl

-- 9, before 13, and 13 where 9 doesn't apply. 9 and 10 can't both apply: 10 is of writing.
same_document_before_found : answer h ample (ask Get x owner Unconditional (Tags (strong (codes "4") ∷ [])) []) ≡ Same 4
unfolding digits
same_document_before_found = refl

same_by_a_weak_tag : answer h ample (ask Get a_folder owner Unconditional (Tags (weak (codes "6") ∷ [])) []) ≡ Same 6
unfolding digits
same_by_a_weak_tag = refl

same_by_one_in_a_list : answer h ample (ask Get x owner Unconditional (Tags (strong (codes "1") ∷ weak (codes "4") ∷ [])) []) ≡ Same 4
unfolding digits
same_by_one_in_a_list = refl

same_root_before_folder : answer h ample (ask Head root owner Unconditional (Tags (strong (codes "8") ∷ [])) []) ≡ Same 8
unfolding digits
same_root_before_folder = refl

same_empty_folder : answer h ample (ask Get z_folder owner Unconditional (Tags (strong (codes "0") ∷ [])) []) ≡ Same 0
unfolding digits
same_empty_folder = refl

same_by_any_behind_a_match : answer h ample (ask Get x owner (Tags (strong (codes "4") ∷ [])) Any []) ≡ Same 4
unfolding digits
same_by_any_behind_a_match = refl

none_match_of_an_older_version : answer h ample (ask Get a_b owner Unconditional (Tags (strong (codes "3") ∷ [])) []) ≡ Found 6 plain hello
unfolding digits
none_match_of_an_older_version = refl

-- 10, alone, before 11, 14 and 15, and behind 4 to 8; reading needs no record.
records_full_before_stored : answer at_end 20 (bare Put y owner []) ≡ RecordsFull
records_full_before_stored = refl

records_full_before_stored_again : answer at_end 20 (bare Put x owner ten) ≡ RecordsFull
records_full_before_stored_again = refl

records_full_before_removed : answer at_end 20 (bare Delete x owner []) ≡ RecordsFull
records_full_before_removed = refl

records_full_before_over_quota : answer at_end 20 (bare Put x owner eleven) ≡ RecordsFull
records_full_before_over_quota = refl

folder_write_before_records_full : answer at_end 20 (bare Put a_folder owner []) ≡ FolderWrite
folder_write_before_records_full = refl

clash_before_records_full : answer at_end 20 (bare Put x_y owner []) ≡ Clash x
clash_before_records_full = refl

absent_before_records_full : answer at_end 20 (bare Delete y owner []) ≡ Absent
absent_before_records_full = refl

unmet_before_records_full : answer at_end 20 (ask Put x owner (Tags (strong (codes "9") ∷ [])) Unconditional ten) ≡ Unmet
unfolding digits
unmet_before_records_full = refl

unmet_by_none_before_records_full : answer at_end 20 (ask Put x owner Unconditional Any ten) ≡ Unmet
unmet_by_none_before_records_full = refl

document_at_the_end : answer at_end 20 (bare Get x owner []) ≡ Found 4294967289 plain ten
document_at_the_end = refl

folder_at_the_end : answer at_end 20 (bare Get a_folder owner []) ≡ Folder 4294967291 (document_item (codes "b") (codes "4294967291") 5 ∷ [])
unfolding digits
folder_at_the_end = refl

-- One record fewer: the last one.
last_put : answer near_end ample (bare Put y owner hello) ≡ Stored 4294967295 true
last_put = refl

last_delete : answer near_end ample (bare Delete x owner []) ≡ Removed 4294967288
last_delete = refl

-- 11, before 14, and what still fits.
over_quota_before_created : answer h 20 (bare Put y owner (codes "0")) ≡ OverQuota 20
over_quota_before_created = refl

over_quota_before_replaced : answer h 20 (bare Put x owner eleven) ≡ OverQuota 20
over_quota_before_replaced = refl

quota_just_reached : answer h 20 (bare Put x owner ten) ≡ Stored 11 false
quota_just_reached = refl

empty_body_at_the_quota : answer h 20 (bare Put y owner []) ≡ Stored 11 true
empty_body_at_the_quota = refl

-- Above a quota that was lowered, a Put is refused though it frees room; reading and removing go on.
empty_put_above_the_quota : answer h 5 (bare Put x owner []) ≡ OverQuota 20
empty_put_above_the_quota = refl

shorter_put_above_the_quota : answer h 5 (bare Put x owner hello) ≡ OverQuota 20
shorter_put_above_the_quota = refl

delete_above_the_quota : answer h 5 (bare Delete x owner []) ≡ Removed 4
delete_above_the_quota = refl

get_above_the_quota : answer h 5 (bare Get x owner []) ≡ Found 4 plain ten
get_above_the_quota = refl

-- 13 to 15, of which each method has one.
document_found : answer h ample (bare Get x owner []) ≡ Found 4 plain ten
document_found = refl

head_has_the_reply_of_get : answer h ample (bare Head x owner []) ≡ Found 4 plain ten
head_has_the_reply_of_get = refl

document_found_as_put_last : answer h ample (bare Get a_b owner []) ≡ Found 6 plain hello
document_found_as_put_last = refl

folder_found : answer h ample (bare Get a_folder owner []) ≡ Folder 6 (document_item (codes "b") (codes "6") 5 ∷ [])
unfolding digits
folder_found = refl

root_found : answer h ample (bare Get root owner [])
    ≡ Folder 8 (folder_item (codes "a") (codes "6") ∷ folder_item (codes "public") (codes "5") ∷ document_item (codes "x") (codes "4") 10 ∷ [])
unfolding digits
root_found = refl

emptied_folder_found : answer h ample (bare Get gone_folder owner []) ≡ Folder 0 []
emptied_folder_found = refl

folder_found_at_the_names_of_a_document : answer h ample (bare Head x_folder owner []) ≡ Folder 0 []
folder_found_at_the_names_of_a_document = refl

document_created : answer h ample (bare Put y owner hello) ≡ Stored 11 true
document_created = refl

document_created_in_a_folder : answer h ample (bare Put a_c owner hello) ≡ Stored 11 true
document_created_in_a_folder = refl

document_created_where_one_was_removed : answer h ample (bare Put gone_g owner hello) ≡ Stored 11 true
document_created_where_one_was_removed = refl

document_replaced : answer h ample (bare Put x owner hello) ≡ Stored 11 false
document_replaced = refl

document_removed : answer h ample (bare Delete x owner []) ≡ Removed 4
document_removed = refl

document_removed_as_put_last : answer h ample (ask Delete a_b owner (Tags (strong (codes "6") ∷ [])) Unconditional []) ≡ Removed 6
unfolding digits
document_removed_as_put_last = refl

-- Grant and Revoke.
grant_of_a_granted_token : answer h ample (Grant token []) ≡ TokenTaken
grant_of_a_granted_token = refl

grant_of_an_unknown_token : answer h ample (Grant stranger_token []) ≡ Granted
grant_of_an_unknown_token = refl

grant_after_a_revoke : answer h ample (Grant former_token []) ≡ Granted
grant_after_a_revoke = refl

revoke_of_a_granted_token : answer h ample (Revoke token) ≡ Revoked
revoke_of_a_granted_token = refl

revoke_of_an_unknown_token : answer h ample (Revoke stranger_token) ≡ NotGranted
revoke_of_an_unknown_token = refl

second_revoke : answer h ample (Revoke former_token) ≡ NotGranted
second_revoke = refl

-- A grant finds the records full before the token taken; a revoke finds the token not granted before the records full.
records_full_before_token_taken : answer at_end ample (Grant token []) ≡ RecordsFull
records_full_before_token_taken = refl

records_full_before_granted : answer at_end ample (Grant stranger_token []) ≡ RecordsFull
records_full_before_granted = refl

records_full_before_revoked : answer at_end ample (Revoke token) ≡ RecordsFull
records_full_before_revoked = refl

not_granted_before_records_full : answer at_end ample (Revoke stranger_token) ≡ NotGranted
not_granted_before_records_full = refl

second_revoke_at_the_end : answer at_end ample (Revoke former_token) ≡ NotGranted
second_revoke_at_the_end = refl

-- One record fewer: the last one.
last_grant : answer near_end ample (Grant stranger_token []) ≡ Granted
last_grant = refl

last_revoke : answer near_end ample (Revoke token) ≡ Revoked
last_revoke = refl
