-- What is due as a connection goes on.
use Rattle.std.proofs.Common.{◌≡◌, ℕ, zero, suc, ◌+◌, ◌-◌, ◌^◌, ◌≤◌, ◌⊎◌, inl, inr, min, cond, Bool, false, List, [], ◌∷◌, ◌++◌, length, take, Option, Some, None, option_map, refl, sym, ap, ◌∙◌, subst, arith}
use Rattle.std.specs.Io.KnownBytes.{prepend_known}
use Rattle.std.specs.List.{flat_map}
use Rattle.std.proofs.lemmas.List.Concat.{flat_map-append}
use Rattle.rs_face.proofs.Cited.{prepend_known-append}
use Rattle.rs_face.specs.Courses.{Course}
use Rattle.rs_scope.specs.Tokens.{bytes_of_words}
use Rattle.std.specs.Prelude.{◌≢◌, count_by}
use Rattle.std.proofs.lemmas.List.Sums.{sum_by-append}
use Rattle.std.proofs.lemmas.List.{append_assoc, take-append-le, append-nil}
use Rattle.rs_path.specs.declared.log_entry.LogEntry.{LogEntry}
use Rattle.rs_record.specs.declared.records.Record.{Record}
use Rattle.rs_rules.specs.Histories.{Base, History, len, up_to, with_entries, IsFront}
use Rattle.rs_rules.specs.Answers.{answer, taken, entry_of}
use Rattle.rs_rules.specs.declared.request.Request.{Request}
use Rattle.rs_rules.specs.declared.reply.Reply.{Reply}
use Rattle.rs_rules.specs.Growth.{Grows}
use Rattle.rs_request.specs.declared.message.RequestMessage.{RequestMessage}
use Rattle.rs_exchange.specs.declared.account.Config.{Config}
use Rattle.rs_exchange.specs.declared.answer.Answer.TheVariants.{Decided}
use Rattle.rs_exchange.specs.declared.asked.Asked.{Asked}
use Rattle.rs_exchange.specs.declared.asked.Asked.TheVariants.{Desk, Now, Consent}
use Rattle.rs_exchange.specs.Requests.{asked_of}
use Rattle.rs_exchange.specs.Manners.{manner_of}
use Rattle.rs_front.specs.Due.{Users, Outcome, answered, unkept, plain, starved, drew, undrawn, request_of, app_told, words_of, drawn_of, is_undrawn, Draws, answer_of, answer_bytes, interim_of, message_bytes, due, OthersStay, AllStay, GoesOn, GoesAlong, is_unkept, HasFaults}

-- ---- histories that go on

pub front_refl : (h : History) → IsFront h h
front_refl h = record { same = refl; entries = ([], sym (append-nil h.entries)) }

pub front_trans : (a b c : History) → IsFront a b → IsFront b c → IsFront a c
front_trans a b c first second = record {
  same = second.same ∙ first.same;
  entries = (
    first.entries.0 ++ second.entries.0,
    second.entries.1 ∙ ap (λ (l : List (LogEntry Record)). l ++ second.entries.0) first.entries.1 ∙ append_assoc a.entries first.entries.0 second.entries.0,
  );
}

-- a point of a front is the same point of the whole
up_to_stays : (n : ℕ) (a b : History) → IsFront a b → n ≤ len a → up_to n b ≡ up_to n a
up_to_stays n a b front within =
    let count : n - a.base.cut ≤ length a.entries = omega (arith, within) in
    ap (λ (base : Base). record { base = base; entries = take (n - base.cut) b.entries }) front.same
    ∙ ap (λ (es : List (LogEntry Record)). record { base = a.base; entries = es })
    (ap (take (n - a.base.cut)) front.entries.1 ∙ take-append-le (n - a.base.cut) a.entries front.entries.0 count)

abbrev pub IsLater : (ℕ → History) → (ℕ → History) → Type 0
IsLater old new = (user : ℕ) → IsFront (old user) (new user)

pub same_number : (a b : ℕ) → (a ≡ b) ⊎ (a ≢ b)
same_number zero zero = inl refl
same_number zero (suc b) = inr (λ e. omega (arith, e))
same_number (suc a) zero = inr (λ e. omega (arith, e))
same_number (suc a) (suc b) = elim (same_number a b) [
  | inl e ↦ inl (ap suc e)
  | inr apart ↦ inr (λ e. apart (omega (arith, e)))
]

grows_later : (old new : History) (quota me : ℕ) (r : Request) (reply : Reply) (front : ℕ) → Grows old new quota me r reply front → IsFront old new
grows_later old new quota me r reply front grows =
    let more = entry_of me (taken (up_to front new) quota r) in
    let added : IsFront (up_to front new) (with_entries (up_to front new) more) = record { same = refl; entries = (more, refl) } in
    front_trans old (up_to front new) new grows.before (subst (IsFront (up_to front new)) (sym grows.added) added)

-- one user's goes on, and the others' stay
one_later : (user : ℕ) (old new : ℕ → History) → IsFront (old user) (new user) → OthersStay user old new → IsLater old new
one_later user old new here others other = elim (same_number other user) [
  | inl same ↦ subst (λ (k : ℕ). IsFront (old k) (new k)) (sym same) here
  | inr apart ↦ subst (IsFront (old other)) (sym (others other apart)) (front_refl (old other))
]

all_later : (old new : ℕ → History) → AllStay old new → IsLater old new
all_later old new stay user = subst (IsFront (old user)) (sym (stay user)) (front_refl (old user))

pub goes_later : (users : Users) (asked : Asked) (outcome : Outcome) (old new : ℕ → History) → GoesOn users asked outcome old new → IsLater old new
goes_later users (Desk user r) (answered n) old new goes =
    one_later user old new (grows_later (old user) (new user) (users.quota user) (users.me user) r (answer (up_to n (new user)) (users.quota user) r) n goes.0) goes.2
goes_later users (Desk user r) unkept old new goes = one_later user old new goes.0.others.before goes.1
goes_later users (Desk user r) plain old new goes = absurd goes
goes_later users (Desk user r) starved old new goes = one_later user old new goes.0.others.before goes.1
goes_later users (Desk user r) (drew first second o) old new goes = absurd goes
goes_later users (Desk user r) (undrawn words) old new goes = absurd goes
goes_later users (Now a) (answered n) old new goes = absurd goes
goes_later users (Now a) unkept old new goes = absurd goes
goes_later users (Now a) plain old new goes = all_later old new goes
goes_later users (Now a) starved old new goes = all_later old new goes
goes_later users (Now a) (drew first second o) old new goes = absurd goes
goes_later users (Now a) (undrawn words) old new goes = absurd goes
goes_later users (Consent user ask) (answered n) old new goes = absurd goes
goes_later users (Consent user ask) unkept old new goes = absurd goes
goes_later users (Consent user ask) plain old new goes = absurd goes
goes_later users (Consent user ask) starved old new goes = all_later old new goes
goes_later users (Consent user ask) (drew first second o) old new goes =
    goes_later users (Desk user (request_of ask (bytes_of_words first second))) o old new goes
goes_later users (Consent user ask) (undrawn words) old new goes = all_later old new goes.0

along_later : (users : Users) (config : Config) (ms : List RequestMessage) (os : List Outcome) (old new : ℕ → History)
    → GoesAlong users config ms os old new → IsLater old new
along_later users config [] [] old new along = all_later old new along
along_later users config [] (o ∷ os) old new along = absurd along
along_later users config (m ∷ ms) [] old new along = absurd along
along_later users config (m ∷ ms) (o ∷ os) old new along = λ user.
    let first = goes_later users (asked_of config m) o old along.0 along.1 in
    let second = along_later users config ms os along.0 new along.2 in
    front_trans (old user) (along.0 user) (new user) (first user) (second user)

-- each message has an outcome
pub along_paired : (users : Users) (config : Config) (ms : List RequestMessage) (os : List Outcome) (old new : ℕ → History)
    → GoesAlong users config ms os old new → length os ≡ length ms
along_paired users config [] [] old new along = refl
along_paired users config [] (o ∷ os) old new along = absurd along
along_paired users config (m ∷ ms) [] old new along = absurd along
along_paired users config (m ∷ ms) (o ∷ os) old new along = ap suc (along_paired users config ms os along.0 new along.2)

-- ---- the users at a later time

abbrev pub at : Users → (ℕ → History) → Users
at users histories = record users { history = histories }

-- how the histories go on doesn't depend on what they come to
goes_same : (users : Users) (h : ℕ → History) (asked : Asked) (outcome : Outcome) (old new : ℕ → History)
    → GoesOn users asked outcome old new → GoesOn (at users h) asked outcome old new
goes_same users h (Desk user r) (answered n) old new goes = goes
goes_same users h (Desk user r) unkept old new goes = goes
goes_same users h (Desk user r) plain old new goes = goes
goes_same users h (Desk user r) starved old new goes = goes
goes_same users h (Desk user r) (drew first second o) old new goes = goes
goes_same users h (Desk user r) (undrawn words) old new goes = goes
goes_same users h (Now a) (answered n) old new goes = goes
goes_same users h (Now a) unkept old new goes = goes
goes_same users h (Now a) plain old new goes = goes
goes_same users h (Now a) starved old new goes = goes
goes_same users h (Now a) (drew first second o) old new goes = goes
goes_same users h (Now a) (undrawn words) old new goes = goes
goes_same users h (Consent user ask) (answered n) old new goes = goes
goes_same users h (Consent user ask) unkept old new goes = goes
goes_same users h (Consent user ask) plain old new goes = goes
goes_same users h (Consent user ask) starved old new goes = goes
goes_same users h (Consent user ask) (drew first second o) old new goes =
    goes_same users h (Desk user (request_of ask (bytes_of_words first second))) o old new goes
goes_same users h (Consent user ask) (undrawn words) old new goes = goes

along_same : (users : Users) (h : ℕ → History) (config : Config) (ms : List RequestMessage) (os : List Outcome) (old new : ℕ → History)
    → GoesAlong users config ms os old new → GoesAlong (at users h) config ms os old new
along_same users h config [] [] old new along = along
along_same users h config [] (o ∷ os) old new along = absurd along
along_same users h config (m ∷ ms) [] old new along = absurd along
along_same users h config (m ∷ ms) (o ∷ os) old new along =
    (along.0, goes_same users h (asked_of config m) o old along.0 along.1, along_same users h config ms os along.0 new along.2)

-- an answer stays as the histories go on
answer_stays : (users : Users) (now later : ℕ → History) (asked : Asked) (outcome : Outcome) (old middle : ℕ → History)
    → GoesOn users asked outcome old middle → IsLater middle now → IsLater now later
    → answer_of (at users later) asked outcome ≡ answer_of (at users now) asked outcome
answer_stays users now later (Desk user r) (answered n) old middle goes first second =
    let point : n ≤ len (middle user) = goes.0.point.within in
    let far = up_to_stays n (middle user) (later user) (front_trans (middle user) (now user) (later user) (first user) (second user)) point in
    let near = up_to_stays n (middle user) (now user) (first user) point in
    ap (λ (h : History). Some (Decided (answer h (users.quota user) r))) (far ∙ sym near)
answer_stays users now later (Desk user r) unkept old middle goes first second = refl
answer_stays users now later (Desk user r) plain old middle goes first second = refl
answer_stays users now later (Desk user r) starved old middle goes first second = refl
answer_stays users now later (Desk user r) (drew a b o) old middle goes first second = refl
answer_stays users now later (Desk user r) (undrawn words) old middle goes first second = refl
answer_stays users now later (Now a) (answered n) old middle goes first second = refl
answer_stays users now later (Now a) unkept old middle goes first second = refl
answer_stays users now later (Now a) plain old middle goes first second = refl
answer_stays users now later (Now a) starved old middle goes first second = refl
answer_stays users now later (Now a) (drew x y o) old middle goes first second = refl
answer_stays users now later (Now a) (undrawn words) old middle goes first second = refl
answer_stays users now later (Consent user ask) (answered n) old middle goes first second = refl
answer_stays users now later (Consent user ask) unkept old middle goes first second = refl
answer_stays users now later (Consent user ask) plain old middle goes first second = refl
answer_stays users now later (Consent user ask) starved old middle goes first second = refl
answer_stays users now later (Consent user ask) (drew x y o) old middle goes first second =
    let token = bytes_of_words x y in
    ap (option_map (app_told ask token)) (answer_stays users now later (Desk user (request_of ask token)) o old middle goes first second)
answer_stays users now later (Consent user ask) (undrawn words) old middle goes first second = refl

-- what was due stays due
pub due_stays : (users : Users) (now later : ℕ → History) (config : Config) (count : ℕ) (ms : List RequestMessage) (os : List Outcome) (old : ℕ → History)
    → GoesAlong users config ms os old now → IsLater now later → due (at users later) config count ms os ≡ due (at users now) config count ms os
due_stays users now later config count [] os old along goes = refl
due_stays users now later config count (m ∷ ms) [] old along goes = refl
due_stays users now later config count (m ∷ ms) (o ∷ os) old along goes =
    let after = along_later users config ms os along.0 now along.2 in
    let here = answer_stays users now later (asked_of config m) o old along.0 along.1 after goes in
    let there = due_stays users now later config (count + 1) ms os along.0 along.2 goes in
    λ i. (interim_of m ++ answer_bytes (manner_of count m) (here i)) ++ there i

-- one message more
pub due_push : (users : Users) (config : Config) (count : ℕ) (ms : List RequestMessage) (os : List Outcome) (m : RequestMessage) (o : Outcome)
    → length os ≡ length ms
    → due users config count (ms ++ m ∷ []) (os ++ o ∷ []) ≡ due users config count ms os ++ message_bytes users config (count + length ms) m o
due_push users config count [] [] m o same =
    let none : count ≡ count + 0 = omega arith in
    append-nil (message_bytes users config count m o) ∙ ap (λ n. message_bytes users config n m o) none
due_push users config count [] (p ∷ os) m o same = absurd (omega (arith, same))
due_push users config count (k ∷ ms) [] m o same = absurd (omega (arith, same))
due_push users config count (k ∷ ms) (p ∷ os) m o same =
    let sum : count + 1 + length ms ≡ count + length (k ∷ ms) = omega arith in
    ap (λ (l : List ℕ). message_bytes users config count k p ++ l) (due_push users config (count + 1) ms os m o (omega (arith, same)))
    ∙ sym (append_assoc (message_bytes users config count k p) (due users config (count + 1) ms os) (message_bytes users config (count + 1 + length ms) m o))
    ∙ ap (λ n. (message_bytes users config count k p ++ due users config (count + 1) ms os) ++ message_bytes users config n m o) sum

along_push_by : (users : Users) (config : Config) (ms : List RequestMessage) (os : List Outcome) (m : RequestMessage) (o : Outcome) (old now new : ℕ → History)
    → GoesAlong users config ms os old now → GoesOn users (asked_of config m) o now new → GoesAlong users config (ms ++ m ∷ []) (os ++ o ∷ []) old new
along_push_by users config [] [] m o old now new along goes =
    let same : now ≡ old = (λ i user. along user i) in
    (new, subst (λ (h : ℕ → History). GoesOn users (asked_of config m) o h new) same goes, λ user. refl)
along_push_by users config [] (p ∷ os) m o old now new along goes = absurd along
along_push_by users config (k ∷ ms) [] m o old now new along goes = absurd along
along_push_by users config (k ∷ ms) (p ∷ os) m o old now new along goes =
    (along.0, along.1, along_push_by users config ms os m o along.0 now new along.2 goes)

-- the same of users whose histories were another time's
pub along_push : (users : Users) (now new : ℕ → History) (config : Config) (ms : List RequestMessage) (os : List Outcome) (m : RequestMessage) (o : Outcome) (old : ℕ → History)
    → GoesAlong (at users now) config ms os old now → GoesOn (at users new) (asked_of config m) o now new
    → GoesAlong (at users new) config (ms ++ m ∷ []) (os ++ o ∷ []) old new
along_push users now new config ms os m o old along goes =
    along_push_by (at users new) config ms os m o old now new (along_same (at users now) new config ms os old now along) goes

-- what is due with one message more, and its history
pub due_more : (users : Users) (now new : ℕ → History) (config : Config) (ms : List RequestMessage) (os : List Outcome) (m : RequestMessage) (o : Outcome) (old : ℕ → History)
    → GoesAlong (at users now) config ms os old now → GoesOn (at users new) (asked_of config m) o now new
    → due (at users new) config 0 (ms ++ m ∷ []) (os ++ o ∷ [])
    ≡ due (at users now) config 0 ms os ++ message_bytes (at users new) config (length ms) m o
due_more users now new config ms os m o old along goes =
    let none : 0 + length ms ≡ length ms = omega arith in
    due_push (at users new) config 0 ms os m o (along_paired (at users now) config ms os old now along)
    ∙ ap (λ n. due (at users new) config 0 ms os ++ message_bytes (at users new) config n m o) none
    ∙ ap (λ (l : List ℕ). l ++ message_bytes (at users new) config (length ms) m o)
    (due_stays (at users now) now new config 0 ms os old along (goes_later (at users new) (asked_of config m) o now new goes))

-- ---- records that couldn't be kept

count_push : (os : List Outcome) (o : Outcome) → count_by is_unkept (os ++ o ∷ []) ≡ count_by is_unkept os + count_by is_unkept (o ∷ [])
count_push os o = sum_by-append (λ (x : Outcome). cond (is_unkept x) 1 0) os (o ∷ [])

pub faults_push : (os : List Outcome) (o : Outcome) (first before now : ℕ) → HasFaults os first before → HasFaults (o ∷ []) before now → HasFaults (os ++ o ∷ []) first now
faults_push os o first before now some more =
    let sum = count_push os o in
    let a : min (first + count_by is_unkept os) (2 ^ 64 - 1) ≤ before = some in
    let b : min (before + count_by is_unkept (o ∷ [])) (2 ^ 64 - 1) ≤ now = more in
    ap_le (first + count_by is_unkept (os ++ o ∷ [])) (first + count_by is_unkept os + count_by is_unkept (o ∷ [])) now (omega (arith, sum)) (omega (arith, a, b))
  where
    ap_le : (m n k : ℕ) → m ≡ n → min n (2 ^ 64 - 1) ≤ k → min m (2 ^ 64 - 1) ≤ k
    ap_le m n k e low = subst (λ (j : ℕ). min j (2 ^ 64 - 1) ≤ k) (sym e) low

-- ---- words that were drawn

pub known_none : (o : Option (List ℕ)) → o ≡ prepend_known [] o
known_none None = refl
known_none (Some xs) = refl

drawn_push : (os : List Outcome) (o : Outcome) → drawn_of (os ++ o ∷ []) ≡ drawn_of os ++ drawn_of (o ∷ [])
drawn_push os o = flat_map-append words_of os (o ∷ [])

failed_push : (os : List Outcome) (o : Outcome) → count_by is_undrawn (os ++ o ∷ []) ≡ count_by is_undrawn os + count_by is_undrawn (o ∷ [])
failed_push os o = sum_by-append (λ (x : Outcome). cond (is_undrawn x) 1 0) os (o ∷ [])

pub draws_push : (os : List Outcome) (o : Outcome) (entropy : Course (List ℕ)) (left : Option (List ℕ)) (n : ℕ) → Draws os entropy
    → Draws (o ∷ []) (record { old = entropy.new; new = left; before = entropy.now; now = n })
    → Draws (os ++ o ∷ []) (record { old = entropy.old; new = left; before = entropy.before; now = n })
draws_push os o entropy left n some more = record {
  words = some.words ∙ ap (prepend_known (drawn_of os)) more.words ∙ prepend_known-append (drawn_of os) (drawn_of (o ∷ [])) left
      ∙ ap (λ (l : List ℕ). prepend_known l left) (sym (drawn_push os o));
  failed =
      let sum = failed_push os o in
      let a = some.failed in
      let b = more.failed in
      most_by (entropy.before + count_by is_undrawn (os ++ o ∷ [])) (entropy.before + count_by is_undrawn os + count_by is_undrawn (o ∷ [])) n (omega (arith, sum)) (omega (arith, a, b));
}
  where
    most_by : (m k now : ℕ) → m ≡ k → min k (2 ^ 64 - 1) ≤ now → min m (2 ^ 64 - 1) ≤ now
    most_by m k now e low = subst (λ (j : ℕ). min j (2 ^ 64 - 1) ≤ now) (sym e) low

-- nothing was drawn, and no entropy was asked
pub draws_none : (o : Outcome) (told : Option (List ℕ)) (n : ℕ) → words_of o ≡ [] → is_undrawn o ≡ false
    → Draws (o ∷ []) (record { old = told; new = told; before = n; now = n })
draws_none o told n none fine = record {
  words = known_none told ∙ ap (λ (l : List ℕ). prepend_known (l ++ []) told) (sym none);
  failed = rw fine (omega arith);
}
