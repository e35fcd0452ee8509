-- A message for which memory was wanted has taken nothing.
use Rattle.std.proofs.Common.{◌≡◌, ℕ, ◌+◌, ◌-◌, ◌≤◌, min, ◌||◌, ◌⊎◌, inl, inr, Bool, true, false, List, [], ◌∷◌, ◌++◌, Option, Some, None, option_map, Result, Ok, Err, IfOk, OnErr, refl, sym, ◌∙◌, ap, subst, arith, append-nil, length, take}
use Rattle.std.proofs.lemmas.List.{length-append, length-take, nil_from_length}
use Rattle.std.specs.Prelude.{⊤}
use Rattle.std.specs.Io.KnownBytes.{prepend_known}
use Rattle.rs_face.specs.Courses.{Course, HasFailed, IsLater, Writes}
use Rattle.rs_scope.specs.Tokens.{bytes_of_words}
use Rattle.rs_grant.specs.declared.ask.Ask.{Ask}
use Rattle.rs_exchange.specs.Grants.{not_granted}
use Rattle.rs_path.specs.declared.log_entry.LogEntry.{LogEntry}
use Rattle.rs_record.specs.declared.records.Record.{Record}
use Rattle.rs_rules.specs.declared.reply.Reply.{Reply}
use Rattle.rs_rules.specs.declared.reply.Reply.TheVariants.{Found, Folder, Stored, Removed, Same, NoToken, BadToken, Forbidden, FolderWrite, Clash, Absent, Unmet, RecordsFull, OverQuota, FolderFull, StoreFailed, Granted, TokenTaken, Revoked, NotGranted}
use Rattle.rs_rules.specs.declared.request.Request.{Request}
use Rattle.rs_rules.specs.declared.request.Request.TheVariants.{Store, Grant, Revoke}
use Rattle.rs_rules.specs.Histories.{Base, History, len, up_to, with_entries, IsFront}
use Rattle.rs_rules.specs.Answers.{answer, taken, record_of, entry_of}
use Rattle.rs_path.specs.Logs.{own}
use Rattle.rs_rules.specs.Growth.{Grows, AddsNothing}
use Rattle.rs_exchange.specs.declared.answer.Answer.{Answer}
use Rattle.rs_exchange.specs.declared.answer.Answer.TheVariants.{Decided}
use Rattle.rs_exchange.specs.declared.asked.Asked.{Asked}
use Rattle.rs_exchange.specs.declared.asked.Asked.TheVariants.{Desk, Now, Consent}
use Rattle.rs_exchange.specs.declared.manner.Manner.{Manner}
use Rattle.rs_exchange.specs.declared.reply.Written.{Written}
use Rattle.rs_request.specs.declared.message.RequestMessage.{RequestMessage}
use Rattle.rs_exchange.specs.declared.account.Config.{Config}
use Rattle.rs_exchange.specs.FixedReplies.{starved_bytes}
use Rattle.rs_exchange.specs.Manners.{is_head, is_last, manner_of}
use Rattle.rs_exchange.specs.Replies.{reply_bytes, has_content}
use Rattle.rs_exchange.specs.Asking.{AsksOf}
use Rattle.rs_exchange.specs.Requests.{asked_line, asked_of}
use Rattle.rs_exchange.specs.Targets.{RequestLine, request_line_of}
use Rattle.rs_request.specs.declared.field.Field.{Field}
use Rattle.rs_front.specs.Due.{Users, Outcome, answered, unkept, plain, starved, drew, undrawn, words_of, is_undrawn, request_of, app_told, answer_of, answer_bytes, GoesOn}
use Rattle.rs_front.specs.Settling.{IsReplyMade, IsTold, AsksGrant, Decides, Settles, SettlesDrawn, RepliesTo}
use Rattle.rs_front.specs.Drawing.{DrawsToken, DrawsFew}
use Rattle.rs_front.proofs.DueLemmas.{known_none, draws_none}

-- a history goes on to itself
stays : (h : History) (me : ℕ) (alone : Bool) → AddsNothing h h me alone
stays h me alone = record {
  others = record {
    before = record { same = refl; entries = ([], sym (append-nil h.entries)) };
    mine = refl;
  };
  still = λ is. refl;
}

-- nothing was asked
starved_stays : (asked : Asked) (old : ℕ → History) (quota me : ℕ → ℕ) (alone : Bool)
    → GoesOn (record { history = old; quota = quota; me = me; alone = alone }) asked starved old old
starved_stays (Desk user r) old quota me alone = (stays (old user) (me user) alone, λ other apart. refl)
starved_stays (Now a) old quota me alone = λ user. refl
starved_stays (Consent user ask) old quota me alone = λ user. refl

-- nothing is answered where memory was wanted
none_is : (users : Users) (asked : Asked) → answer_of users asked starved ≡ None
none_is users (Desk user r) = refl
none_is users (Now a) = refl
none_is users (Consent user ask) = refl

-- memory was wanted before the desk was asked
pub settles_early : (manner : Manner) (asked : Asked) (old : ℕ → History) (quota me : ℕ → ℕ) (alone : Bool) (count : ℕ) → {E : Type 0} (e : E)
    → Settles {E = E} (record { history = old; quota = quota; me = me; alone = alone }) manner asked old count count (Err e)
settles_early manner asked old quota me alone count e = record {
  outcome = starved;
  goes_on = starved_stays asked old quota me alone;
  unkept = omega arith;
  written = none_is (record { history = old; quota = quota; me = me; alone = alone }) asked;
}

-- a reply that shows a document or a folder adds no record
content_adds_none : (r : Request) (reply : Reply) → has_content (Decided reply) ≡ true → record_of r reply ≡ None
content_adds_none (Store c) (Found version kind body) is = refl
content_adds_none (Store c) (Folder version items) is = refl
content_adds_none (Grant token scopes) (Found version kind body) is = refl
content_adds_none (Grant token scopes) (Folder version items) is = refl
content_adds_none (Revoke token) (Found version kind body) is = refl
content_adds_none (Revoke token) (Folder version items) is = refl
content_adds_none r (Stored version created) is = grind arith
content_adds_none r (Removed version) is = grind arith
content_adds_none r (Same version) is = grind arith
content_adds_none r NoToken is = grind arith
content_adds_none r BadToken is = grind arith
content_adds_none r Forbidden is = grind arith
content_adds_none r FolderWrite is = grind arith
content_adds_none r (Clash path) is = grind arith
content_adds_none r Absent is = grind arith
content_adds_none r Unmet is = grind arith
content_adds_none r RecordsFull is = grind arith
content_adds_none r (OverQuota live) is = grind arith
content_adds_none r (FolderFull path) is = grind arith
content_adds_none r StoreFailed is = grind arith
content_adds_none r Granted is = grind arith
content_adds_none r TokenTaken is = grind arith
content_adds_none r Revoked is = grind arith
content_adds_none r NotGranted is = grind arith

-- a history that went on by no record of this desk is as it was at the front
same_as_front : (old new : History) (quota me : ℕ) (r : Request) (reply : Reply) (front : ℕ) → Grows old new quota me r reply front
    → entry_of me (taken (up_to front new) quota r) ≡ [] → new ≡ up_to front new
same_as_front old new quota me r reply front grows nothing =
    grows.added ∙ ap (with_entries (up_to front new)) nothing
    ∙ ap (λ (es : List (LogEntry Record)). record { base = new.base; entries = es }) (append-nil (up_to front new).entries)

-- entries that are no more than those at the front are those
no_more : (entries all rest : List (LogEntry Record)) (k : ℕ) → take k all ≡ entries ++ rest → k ≡ length entries → take k all ≡ entries
no_more entries all rest k is short =
    let within : length (take k all) ≡ min k (length all) = length-take k all in
    let whole : length (take k all) ≡ length entries + length rest = ap (λ (l : List (LogEntry Record)). length l) is ∙ length-append entries rest in
    is ∙ ap (λ (l : List (LogEntry Record)). entries ++ l) (nil_from_length rest (omega (arith, within, whole, short))) ∙ append-nil entries

-- and where the front is the old length, it is the old history
pub still_at_front : (old new : History) (front : ℕ) → IsFront old (up_to front new) → front ≡ len old → up_to front new ≡ old
still_at_front old new front before is =
    let cut : new.base.cut ≡ old.base.cut = ap (λ (b : Base). b.cut) before.same in
    let entries : take (front - new.base.cut) new.entries ≡ old.entries =
    no_more old.entries new.entries before.entries.0 (front - new.base.cut) before.entries.1 (omega (arith, cut, is)) in
    ap (λ (b : Base). record { base = b; entries = take (front - new.base.cut) new.entries }) before.same
    ∙ ap (λ (es : List (LogEntry Record)). record { base = old.base; entries = es }) entries

-- such a history went on by others' alone, and where there are none, not at all
grows_by_none : (old new : History) (quota me : ℕ) (alone : Bool) (r : Request) (reply : Reply) (front : ℕ) → Grows old new quota me r reply front
    → (alone ≡ true → front ≡ len old) → taken (up_to front new) quota r ≡ None → AddsNothing old new me alone
grows_by_none old new quota me alone r reply front grows now none =
    let nothing : entry_of me (taken (up_to front new) quota r) ≡ [] = ap (entry_of me) none in
    let same = same_as_front old new quota me r reply front grows nothing in
    record {
      others = record {
        before = subst (λ (h : History). IsFront old h) (sym same) grows.before;
        mine = grows.mine ∙ ap (λ (es : List (LogEntry Record)). own me old.entries ++ es) nothing ∙ append-nil (own me old.entries);
      };
      still = λ is. same ∙ still_at_front old new front grows.before (now is);
    }

some_is : {X : Type 0} (a b : X) → Some a ≡ Some b → a ≡ b
some_is a b is = grind arith

-- the outcome of a request whose answer shows a document or a folder may as well be that memory was wanted
pub content_starved : (users : Users) (user : ℕ) (r : Request) (outcome : Outcome) (old : ℕ → History) (a : Answer)
    → GoesOn users (Desk user r) outcome old users.history → answer_of users (Desk user r) outcome ≡ Some a → has_content a ≡ true
    → GoesOn users (Desk user r) starved old users.history
content_starved users user r (answered n) old a goes is content =
    let reply = answer (up_to n (users.history user)) (users.quota user) r in
    let shows : has_content (Decided reply) ≡ true = subst (λ (b : Answer). has_content b ≡ true) (sym (some_is (Decided reply) a is)) content in
    (grows_by_none (old user) (users.history user) (users.quota user) (users.me user) users.alone r reply n goes.0 goes.1 (content_adds_none r reply shows), goes.2)
content_starved users user r unkept old a goes is content = goes
content_starved users user r plain old a goes is content = elim goes [ ]
content_starved users user r starved old a goes is content = goes
content_starved users user r (drew first second o) old a goes is content = elim goes [ ]
content_starved users user r (undrawn words) old a goes is content = elim goes [ ]

-- memory was wanted at the desk
pub settles_unanswered : (users : Users) (manner : Manner) (asked : Asked) (old : ℕ → History) (before now : ℕ) → {E F : Type 0} (e : E) (f : F)
    → Decides {E = E} users asked old before now (Err e) → Settles {E = F} users manner asked old before now (Err f)
settles_unanswered users manner asked old before now e f decided = record {
  outcome = decided.outcome;
  goes_on = decided.goes_on;
  unkept = decided.unkept;
  written = decided.answer;
}

-- memory was wanted for the reply
settles_unwritten : (users : Users) (manner : Manner) (user : ℕ) (r : Request) (old : ℕ → History) (before now : ℕ) (a : Answer) → {E F : Type 0} (f : F)
    → before ≤ now → has_content a ≡ true → Decides {E = E} users (Desk user r) old before now (Ok a)
    → Settles {E = F} users manner (Desk user r) old before now (Err f)
settles_unwritten users manner user r old before now a f later content decided = record {
  outcome = starved;
  goes_on = content_starved users user r decided.outcome old a decided.goes_on decided.answer content;
  unkept = omega (arith, later);
  written = refl;
}

-- the reply was made
settles_written : (users : Users) (manner : Manner) (asked : Asked) (old : ℕ → History) (before now : ℕ) (a : Answer) (w : Written) → {E F : Type 0}
    → w.head.items ++ w.body ≡ reply_bytes manner a → Decides {E = E} users asked old before now (Ok a)
    → Settles {E = F} users manner asked old before now (Ok w)
settles_written users manner asked old before now a w bytes decided = record {
  outcome = decided.outcome;
  goes_on = decided.goes_on;
  unkept = decided.unkept;
  written = bytes ∙ ap (answer_bytes manner) (sym decided.answer);
}

-- the reply, made or not
pub settles_by : (users : Users) (manner : Manner) (user : ℕ) (q : Request) (old : ℕ → History) (before now : ℕ) (a : Answer) → {E F : Type 0} (r : Result Written F)
    → before ≤ now → IfOk r (λ w. w.head.items ++ w.body ≡ reply_bytes manner a)
    → OnErr r (has_content a ≡ true) → Decides {E = E} users (Desk user q) old before now (Ok a)
    → Settles {E = F} users manner (Desk user q) old before now r
settles_by users manner user q old before now a {E} {F} (Ok w) later bytes made decided = settles_written users manner (Desk user q) old before now a w bytes decided
settles_by users manner user q old before now a {E} {F} (Err f) later bytes made decided = settles_unwritten users manner user q old before now a f later made decided

-- the reply to a message that asks no desk, made or not
pub settles_now : (manner : Manner) (a : Answer) (old : ℕ → History) (quota me : ℕ → ℕ) (alone : Bool) (count : ℕ) → {E : Type 0} (r : Result Written E)
    → IfOk r (λ w. w.head.items ++ w.body ≡ reply_bytes manner a)
    → Settles {E = E} (record { history = old; quota = quota; me = me; alone = alone }) manner (Now a) old count count r
settles_now manner a old quota me alone count (Ok w) bytes = record {
  outcome = plain;
  goes_on = λ user. refl;
  unkept = omega arith;
  written = bytes;
}
settles_now manner a old quota me alone count (Err e) bytes = settles_early manner (Now a) old quota me alone count e

-- ---- words that were drawn

-- a consent asks the entropy; nothing else does
abbrev IsNoConsent : Asked → Type 0
IsNoConsent (Desk user r) = ⊤
IsNoConsent (Now a) = ⊤
IsNoConsent (Consent user ask) = ⊥

none_drawn : (users : Users) (asked : Asked) (o : Outcome) (old new : ℕ → History) → IsNoConsent asked → GoesOn users asked o old new
    → (words_of o ≡ []) × (is_undrawn o ≡ false)
none_drawn users (Desk user r) (answered n) old new free goes = (refl, refl)
none_drawn users (Desk user r) unkept old new free goes = (refl, refl)
none_drawn users (Desk user r) plain old new free goes = elim goes [ ]
none_drawn users (Desk user r) starved old new free goes = (refl, refl)
none_drawn users (Desk user r) (drew first second o) old new free goes = elim goes [ ]
none_drawn users (Desk user r) (undrawn words) old new free goes = elim goes [ ]
none_drawn users (Now a) (answered n) old new free goes = elim goes [ ]
none_drawn users (Now a) unkept old new free goes = elim goes [ ]
none_drawn users (Now a) plain old new free goes = (refl, refl)
none_drawn users (Now a) starved old new free goes = (refl, refl)
none_drawn users (Now a) (drew first second o) old new free goes = elim goes [ ]
none_drawn users (Now a) (undrawn words) old new free goes = elim goes [ ]
none_drawn users (Consent user ask) o old new free goes = elim free [ ]

drawn_by : (users : Users) (manner : Manner) (asked : Asked) (old : ℕ → History) (before now : ℕ) (told : Option (List ℕ)) (n : ℕ) → {E : Type 0}
    (r : Result Written E) → IsNoConsent asked → Settles {E = E} users manner asked old before now r
    → SettlesDrawn {E = E} users manner asked old before now (record { old = told; new = told; before = n; now = n }) r
drawn_by users manner asked old before now told n r free settled =
    let none = none_drawn users asked settled.outcome old users.history free settled.goes_on in
    record { settles = settled; drawn = draws_none settled.outcome told n none.0 none.1 }

pub request_drawn : (users : Users) (manner : Manner) (user : ℕ) (q : Request) (old : ℕ → History) (before now : ℕ) (told : Option (List ℕ)) (n : ℕ) → {E : Type 0}
    (r : Result Written E) → Settles {E = E} users manner (Desk user q) old before now r
    → SettlesDrawn {E = E} users manner (Desk user q) old before now (record { old = told; new = told; before = n; now = n }) r
request_drawn users manner user q old before now told n r settled = drawn_by users manner (Desk user q) old before now told n r tt settled

pub now_drawn : (users : Users) (manner : Manner) (a : Answer) (old : ℕ → History) (before now : ℕ) (told : Option (List ℕ)) (n : ℕ) → {E : Type 0}
    (r : Result Written E) → Settles {E = E} users manner (Now a) old before now r
    → SettlesDrawn {E = E} users manner (Now a) old before now (record { old = told; new = told; before = n; now = n }) r
now_drawn users manner a old before now told n r settled = drawn_by users manner (Now a) old before now told n r tt settled

-- memory was wanted before anything was drawn or asked
pub early_drawn : (manner : Manner) (asked : Asked) (old : ℕ → History) (quota me : ℕ → ℕ) (alone : Bool) (count : ℕ) (told : Option (List ℕ)) (n : ℕ) → {E : Type 0} (e : E)
    → SettlesDrawn {E = E} (record { history = old; quota = quota; me = me; alone = alone }) manner asked old count count (record { old = told; new = told; before = n; now = n }) (Err e)
early_drawn manner asked old quota me alone count told n e = record {
  settles = record {
    outcome = starved;
    goes_on = starved_stays asked old quota me alone;
    unkept = omega arith;
    written = none_is (record { history = old; quota = quota; me = me; alone = alone }) asked;
  };
  drawn = draws_none starved told n refl refl;
}

-- ---- grants

-- memory was wanted before the desk was asked that the token has the scopes
pub grant_early : (manner : Manner) (user : ℕ) (ask : Ask) (token : List ℕ) (old : ℕ → History) (quota me : ℕ → ℕ) (alone : Bool) (count : ℕ) → {E : Type 0} (e : E)
    → AsksGrant {E = E} (record { history = old; quota = quota; me = me; alone = alone }) manner user ask token old count count (Err e)
grant_early manner user ask token old quota me alone count e = record {
  outcome = starved;
  goes_on = starved_stays (Desk user (request_of ask token)) old quota me alone;
  unkept = omega arith;
  told = refl;
}

-- and at the desk
pub grant_starved : (users : Users) (manner : Manner) (user : ℕ) (ask : Ask) (token : List ℕ) (old : ℕ → History) (before now : ℕ) → {E F : Type 0} (e : E) (f : F)
    → Decides {E = E} users (Desk user (request_of ask token)) old before now (Err e) → AsksGrant {E = F} users manner user ask token old before now (Err f)
grant_starved users manner user ask token old before now e f decided = record {
  outcome = decided.outcome;
  goes_on = decided.goes_on;
  unkept = decided.unkept;
  told = decided.answer;
}

-- the desk answered, and the app is told
pub grant_told : (users : Users) (manner : Manner) (user : ℕ) (ask : Ask) (token : List ℕ) (old : ℕ → History) (before now : ℕ) (a : Answer) (w : Written) → {E F : Type 0}
    → w.head.items ++ w.body ≡ reply_bytes manner (app_told ask token a) → Decides {E = E} users (Desk user (request_of ask token)) old before now (Ok a)
    → AsksGrant {E = F} users manner user ask token old before now (Ok w)
grant_told users manner user ask token old before now a w bytes decided = record {
  outcome = decided.outcome;
  goes_on = decided.goes_on;
  unkept = decided.unkept;
  told = bytes ∙ ap (λ (o : Option Answer). answer_bytes manner (option_map (app_told ask token) o)) (sym decided.answer);
}

-- what a grant comes to, by the words of its token
told_made : (users : Users) (manner : Manner) (user : ℕ) (ask : Ask) (first second : ℕ) (o : Outcome) → {E : Type 0} (r : Result Written E)
    → IsTold users manner user ask (bytes_of_words first second) o r → IsReplyMade users manner (Consent user ask) (drew first second o) r
told_made users manner user ask first second o (Ok w) told = told
told_made users manner user ask first second o (Err e) told = ap (option_map (app_told ask (bytes_of_words first second))) told

-- the words of a token were drawn, and the grant came to this
pub grant_drawn : (users : Users) (manner : Manner) (user : ℕ) (ask : Ask) (token : List ℕ) (old : ℕ → History) (before now : ℕ) (entropy : Course (List ℕ)) → {E : Type 0}
    (r : Result Written E) → DrawsToken entropy token → IsLater entropy → AsksGrant {E = E} users manner user ask token old before now r
    → SettlesDrawn {E = E} users manner (Consent user ask) old before now entropy r
grant_drawn users manner user ask token old before now entropy {E} r draws later granted =
    let by_words : AsksGrant {E = E} users manner user ask (bytes_of_words draws.first draws.second) old before now r =
    subst (λ (t : List ℕ). AsksGrant {E = E} users manner user ask t old before now r) draws.made granted in
    record {
      settles = record {
        outcome = drew draws.first draws.second by_words.outcome;
        goes_on = by_words.goes_on;
        unkept = by_words.unkept;
        written = told_made users manner user ask draws.first draws.second by_words.outcome r by_words.told;
      };
      drawn = record { words = draws.drawn; failed = omega (arith, later) };
    }

-- the entropy failed: the words before, fewer than two
few_words : (entropy : Course (List ℕ)) → DrawsFew entropy → (words : List ℕ) × (length words ≤ 1) × (entropy.old ≡ prepend_known words entropy.new)
few_words entropy few = elim few [
  | inl same ↦ ([], omega arith, sym same ∙ known_none entropy.new)
  | inr one ↦ (one.0 ∷ [], omega arith, one.1)
]

pub failed_drawn : (manner : Manner) (user : ℕ) (ask : Ask) (old : ℕ → History) (quota me : ℕ → ℕ) (alone : Bool) (count : ℕ) (entropy : Course (List ℕ)) (w : Written) → {E : Type 0}
    → HasFailed entropy × DrawsFew entropy → w.head.items ++ w.body ≡ reply_bytes manner (not_granted ask)
    → SettlesDrawn {E = E} (record { history = old; quota = quota; me = me; alone = alone }) manner (Consent user ask) old count count entropy (Ok w)
failed_drawn manner user ask old quota me alone count entropy w fails bytes =
    let few = few_words entropy fails.1 in record {
      settles = record {
        outcome = undrawn few.0;
        goes_on = (λ user. refl, few.1);
        unkept = omega arith;
        written = bytes;
      };
      drawn = record {
        words = few.2 ∙ ap (λ (l : List ℕ). prepend_known l entropy.new) (sym (append-nil few.0));
        failed = fails.0;
      };
    }

-- what was settled and made was sent
pub replies_made : (users : Users) (config : Config) (count : ℕ) (m : RequestMessage) (old : ℕ → History) (before now : ℕ)
    (entropy sink : Course (List ℕ)) (manner : Manner) (w : Written) → {A E F : Type 0} (r : Result A F) → manner ≡ manner_of count m
    → SettlesDrawn {E = E} users manner (asked_of config m) old before now entropy (Ok w) → (h b : List ℕ) → h ≡ w.head.items → b ≡ w.body
    → Writes sink (h ++ b) r → RepliesTo users config count m old before now entropy sink r
replies_made users config count m old before now entropy sink manner w r same settled h b head body sent = record {
  outcome = settled.settles.outcome;
  goes_on = settled.settles.goes_on;
  unkept = settled.settles.unkept;
  drawn = settled.drawn;
  writes = subst (λ (l : List ℕ). Writes sink l r)
      (ap (λ (l : List ℕ). l ++ b) head ∙ ap (λ (l : List ℕ). w.head.items ++ l) body ∙ settled.settles.written ∙ ap (λ (k : Manner). answer_bytes k (answer_of users (asked_of config m) settled.settles.outcome)) same) sent;
}

-- memory was wanted, and the fixed reply was sent
pub replies_starved : (users : Users) (config : Config) (count : ℕ) (m : RequestMessage) (old : ℕ → History) (before now : ℕ)
    (entropy sink : Course (List ℕ)) (manner : Manner) → {A E F : Type 0} (e : E) (r : Result A F) → manner ≡ manner_of count m
    → SettlesDrawn {E = E} users manner (asked_of config m) old before now entropy (Err e)
    → (bytes : List ℕ) → bytes ≡ starved_bytes manner.closing → Writes sink bytes r
    → RepliesTo users config count m old before now entropy sink r
replies_starved users config count m old before now entropy sink manner e r same settled bytes fixed sent = record {
  outcome = settled.settles.outcome;
  goes_on = settled.settles.goes_on;
  unkept = settled.settles.unkept;
  drawn = settled.drawn;
  writes = subst (λ (l : List ℕ). Writes sink l r)
      (fixed ∙ ap (λ (k : Manner). starved_bytes k.closing) same
      ∙ ap (answer_bytes (manner_of count m)) (sym settled.settles.written)) sent;
}

-- the user that is asked is served where these are
pub served_by : (S T : ℕ → Type 0) (asked : Asked) → ((user : ℕ) → S user → T user) → AsksOf S asked → AsksOf T asked
served_by S T (Desk user r) all served = all user served
served_by S T (Now a) all served = served
served_by S T (Consent user ask) all served = all user served

-- ---- a message's parts

-- the request line that was read of a message
pub line_is : (config : Config) (m : RequestMessage) (method target : List ℕ) (line : RequestLine) → line ≡ request_line_of config.accounts method target
    → method ≡ m.method → target ≡ m.target → line ≡ request_line_of config.accounts m.method m.target
line_is config m method target line is same_method same_target =
    is ∙ ap (λ (l : List ℕ). request_line_of config.accounts l target) same_method ∙ ap (request_line_of config.accounts m.method) same_target

-- the manner that was made of it
pub manner_is : (config : Config) (count : ℕ) (m : RequestMessage) (line : RequestLine) (manner : Manner) → line ≡ request_line_of config.accounts m.method m.target
    → manner ≡ record { shared = line.shared; bodiless = is_head line.verb; closing = m.close || is_last count } → manner ≡ manner_of count m
manner_is config count m line manner same is =
    is ∙ ap (λ (l : RequestLine). record { shared = l.shared; bodiless = is_head l.verb; closing = m.close || is_last count }) same

-- what the message asks by its parts
pub asked_is : (config : Config) (m : RequestMessage) (fields : List Field) (line : RequestLine) → fields ≡ m.fields
    → line ≡ request_line_of config.accounts m.method m.target → asked_line config fields m.body line ≡ asked_of config m
asked_is config m fields line same_fields same_line =
    ap (λ (f : List Field). asked_line config f m.body line) same_fields ∙ ap (asked_line config m.fields m.body) same_line

pub settles_as : (users : Users) (manner : Manner) (asked wanted : Asked) (old : ℕ → History) (before now : ℕ) (entropy : Course (List ℕ)) → {E : Type 0} (r : Result Written E) → asked ≡ wanted
    → SettlesDrawn {E = E} users manner asked old before now entropy r → SettlesDrawn {E = E} users manner wanted old before now entropy r
settles_as users manner asked wanted old before now entropy {E} r same settled =
    subst (λ (q : Asked). SettlesDrawn {E = E} users manner q old before now entropy r) same settled
