-- The replies that come to an ask are among those that its asker can read.
use Rattle.std.proofs.Common.{◌≡◌, ℕ, Bool, true, false, not, ◌&&◌, nat_le, nat_lt, List, [], ◌∷◌, Option, Some, None, is_some, unwrap_or, if◌then◌else◌, refl, sym, ap, ◌∙◌}
use Rattle.std.specs.Option.{option_or}
use Rattle.std.proofs.lemmas.Bool.{cond-true, cond-false}
use Rattle.rs_path.specs.Items.{holds_of}
use Rattle.rs_path.specs.Paths.{Path}
use Rattle.rs_rules.specs.declared.call.Call.{Call}
use Rattle.rs_rules.specs.declared.doc.Doc.{Doc}
use Rattle.rs_rules.specs.declared.reply.Reply.{Reply}
use Rattle.rs_rules.specs.declared.reply.Reply.TheVariants.{Folder, Same, NoToken, BadToken, Forbidden, FolderWrite, Clash, Absent, Unmet, RecordsFull, OverQuota, FolderFull}
use Rattle.rs_rules.specs.Answers.{when, clash_reply, full_reply, first_of, early_steps, limit_steps, last_step, is_present, path_version, is_put, is_write, shows_none, shows_ungranted, is_beyond, live_after, shown, shown_doc, answer_call_in, answer}
use Rattle.rs_rules.specs.Clashes.{clash_in, full_in}
use Rattle.rs_rules.specs.Conditions.{excludes, meets}
use Rattle.rs_rules.specs.Documents.{doc_in, live_in}
use Rattle.rs_rules.specs.Histories.{History}
use Rattle.rs_rules.specs.Snapshots.{Snapshot, snapshot}
use Rattle.rs_rules.specs.Limits.{max_len}
use Rattle.rs_rules.specs.Listings.{items_in}
use Rattle.rs_scope.specs.Reach.{is_reading, is_free_read}
use Rattle.rs_talk.specs.declared.ask.Ask.{Ask}
use Rattle.rs_talk.specs.declared.ask.Ask.TheVariants as asks
use Rattle.rs_talk.specs.AskRequests.{call_asked, request_asked, tag_if_any}
use Rattle.rs_talk.specs.Asks.{is_ask}
use Rattle.rs_talk.specs.ReplyAnswers.{may_show_folder, may_show_document, may_store, may_remove, may_answer}

-- the test holds of each step that replies
abbrev AllOk : (Reply → Bool) → List (Option Reply) → Type 0
AllOk P [] = Unit {0}
AllOk P (step ∷ steps) = (holds_of P step ≡ true) × AllOk P steps

-- the test holds of the first of two steps that replies
or_ok : (P : Reply → Bool) (one other : Option Reply) → holds_of P one ≡ true → holds_of P other ≡ true → holds_of P (option_or one other) ≡ true
or_ok P None other a b = b
or_ok P (Some reply) other a b = a

when_ok : (P : Reply → Bool) (test : Bool) (reply : Reply) → P reply ≡ true → holds_of P (when test reply) ≡ true
when_ok P true reply is = is
when_ok P false reply is = refl

clash_ok : (P : Reply → Bool) (path : Path) (put : Bool) (clash : Option ℕ) → ((p : Path) → P (Clash p) ≡ true)
    → holds_of P (if put then clash_reply path clash else None) ≡ true
clash_ok P path false clash each = refl
clash_ok P path true None each = refl
clash_ok P path true (Some count) each = each _

full_ok : (P : Reply → Bool) (path : Path) (put : Bool) (full : Option ℕ) → ((p : Path) → P (FolderFull p) ≡ true)
    → holds_of P (if put then full_reply path full else None) ≡ true
full_ok P path false full each = refl
full_ok P path true None each = refl
full_ok P path true (Some count) each = each _

last_ok : (P : Reply → Bool) (one other : Option Reply) (last : Reply) → holds_of P one ≡ true → holds_of P other ≡ true → P last ≡ true
    → P (unwrap_or (option_or one other) last) ≡ true
last_ok P None None last a b c = c
last_ok P None (Some reply) last a b c = b
last_ok P (Some reply) other last a b c = a

-- the test holds of each reply that says nothing of a version
record OfPlain (P : Reply → Bool) : Type 0 where
  no_token : P NoToken ≡ true
  bad_token : P BadToken ≡ true
  forbidden : P Forbidden ≡ true
  folder_write : P FolderWrite ≡ true
  clash : (path : Path) → P (Clash path) ≡ true
  absent : P Absent ≡ true
  unmet : P Unmet ≡ true
  records : P RecordsFull ≡ true
  quota : (live : ℕ) → P (OverQuota live) ≡ true
  full : (path : Path) → P (FolderFull path) ≡ true

first_ok : (P : Reply → Bool) (steps : List (Option Reply)) → AllOk P steps → holds_of P (first_of steps) ≡ true
first_ok P [] all = refl
first_ok P (step ∷ steps) all = or_ok P step (first_of steps) all.0 (first_ok P steps all.1)

-- the test holds of the reply of nine steps, if it does where nothing has changed
early_ok : (P : Reply → Bool) (s : Snapshot) (c : Call) → OfPlain P
    → holds_of P (when (is_reading c.method && excludes c.if_none (is_present s c) (path_version s c)) (Same (path_version s c))) ≡ true
    → holds_of P (first_of (early_steps s c)) ≡ true
early_ok P s c plain same =
    let free = is_free_read c.method c.path in
    let there = is_present s c in
    let version = path_version s c in
    first_ok P (early_steps s c) (
      when_ok P (not free && shows_none c.pass) NoToken plain.no_token,
      (
        when_ok P (not free && shows_ungranted s c.pass) BadToken plain.bad_token,
        (
          when_ok P (not free && is_beyond s c c.pass) Forbidden plain.forbidden,
          (
            when_ok P (is_write c.method && c.path.folder) FolderWrite plain.folder_write,
            (
              clash_ok P c.path (is_put c.method) (clash_in s.contents.docs c.path) plain.clash,
              (
                when_ok P (not (is_put c.method) && not there) Absent plain.absent,
                (
                  when_ok P (not (meets c.if_match there version)) Unmet plain.unmet,
                  (
                    when_ok P (is_write c.method && excludes c.if_none there version) Unmet plain.unmet,
                    (
                      same,
                      tt,
                    ),
                  ),
                ),
              ),
            ),
          ),
        ),
      ),
    )

limit_ok : (P : Reply → Bool) (s : Snapshot) (quota : ℕ) (c : Call) → OfPlain P → holds_of P (first_of (limit_steps s quota c)) ≡ true
limit_ok P s quota c plain =
    first_ok P (limit_steps s quota c) (
      when_ok P (is_write c.method && nat_le max_len s.len) RecordsFull plain.records,
      (
        when_ok P (is_put c.method && nat_lt quota (live_after s c)) (OverQuota (live_in s.contents.docs)) (plain.quota (live_in s.contents.docs)),
        (
          full_ok P c.path (is_put c.method) (full_in s.contents.docs c.path) plain.full,
          tt,
        ),
      ),
    )

-- so it holds of the answer, if it does of the last step
answer_ok : (P : Reply → Bool) (s : Snapshot) (quota : ℕ) (c : Call) → OfPlain P
    → holds_of P (when (is_reading c.method && excludes c.if_none (is_present s c) (path_version s c)) (Same (path_version s c))) ≡ true
    → P (last_step s c c.method) ≡ true → P (answer_call_in s quota c) ≡ true
answer_ok P s quota c plain same last =
    last_ok P (first_of (early_steps s c)) (first_of (limit_steps s quota c)) (last_step s c c.method) (early_ok P s c plain same) (limit_ok P s quota c plain) last

-- where no version was known, none is excluded
same_ok : (P : Reply → Bool) (known : Option (List ℕ)) (there : Bool) (version : ℕ) → P (Same version) ≡ is_some known
    → holds_of P (when (excludes (tag_if_any known) there version) (Same version)) ≡ true
same_ok P None there version is = refl
same_ok P (Some tag) there version is = when_ok P (excludes (tag_if_any (Some tag)) there version) (Same version) is

-- what is shown of a folder and of a document
shown_folder : (known : Bool) (s : Snapshot) (path : Path) → path.folder ≡ true → may_show_folder known (shown s path) ≡ true
shown_folder known s path folder =
    ap (may_show_folder known) (cond-true path.folder (Folder (s.contents.version path) (items_in s.contents path)) (shown_doc (doc_in path s.contents.docs)) folder)

doc_ok : (known : Bool) (doc : Option Doc) → may_show_document known (shown_doc doc) ≡ true
doc_ok known None = refl
doc_ok known (Some doc) = refl

shown_document : (known : Bool) (s : Snapshot) (path : Path) → not path.folder ≡ true → may_show_document known (shown s path) ≡ true
shown_document known s path document =
    ap (may_show_document known) (cond-false path.folder (Folder (s.contents.version path) (items_in s.contents path)) (shown_doc (doc_in path s.contents.docs)) (unfolded path.folder document))
    ∙ doc_ok known (doc_in path s.contents.docs)
  where
    unfolded : (b : Bool) → not b ≡ true → b ≡ false
    unfolded true is = sym is
    unfolded false is = refl

plain_folder : (known : Bool) → OfPlain (may_show_folder known)
plain_folder known = record { no_token = refl; bad_token = refl; forbidden = refl; folder_write = refl; clash = λ p. refl; absent = refl; unmet = refl; records = refl; quota = λ n. refl; full = λ p. refl }

plain_document : (known : Bool) → OfPlain (may_show_document known)
plain_document known = record { no_token = refl; bad_token = refl; forbidden = refl; folder_write = refl; clash = λ p. refl; absent = refl; unmet = refl; records = refl; quota = λ n. refl; full = λ p. refl }

plain_put : OfPlain may_store
plain_put = record { no_token = refl; bad_token = refl; forbidden = refl; folder_write = refl; clash = λ p. refl; absent = refl; unmet = refl; records = refl; quota = λ n. refl; full = λ p. refl }

plain_remove : OfPlain may_remove
plain_remove = record { no_token = refl; bad_token = refl; forbidden = refl; folder_write = refl; clash = λ p. refl; absent = refl; unmet = refl; records = refl; quota = λ n. refl; full = λ p. refl }

pub may_come : (h : History) (quota : ℕ) (token : List ℕ) (ask : Ask) → is_ask ask ≡ true
    → may_answer ask (answer h quota (request_asked token ask)) ≡ true
may_come h quota token (asks.Folder path known) is =
    let c = call_asked token (asks.Folder path known) in
    answer_ok (may_show_folder (is_some known)) (snapshot h) quota c (plain_folder (is_some known))
    (same_ok (may_show_folder (is_some known)) known (is_present (snapshot h) c) (path_version (snapshot h) c) refl)
    (shown_folder (is_some known) (snapshot h) path is)
may_come h quota token (asks.Document path known) is =
    let c = call_asked token (asks.Document path known) in
    answer_ok (may_show_document (is_some known)) (snapshot h) quota c (plain_document (is_some known))
    (same_ok (may_show_document (is_some known)) known (is_present (snapshot h) c) (path_version (snapshot h) c) refl)
    (shown_document (is_some known) (snapshot h) path is)
may_come h quota token (asks.Put path base kind body) is =
    answer_ok may_store (snapshot h) quota (call_asked token (asks.Put path base kind body)) plain_put refl refl
may_come h quota token (asks.Remove path base) is =
    answer_ok may_remove (snapshot h) quota (call_asked token (asks.Remove path base)) plain_remove refl refl
