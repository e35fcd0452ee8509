-- A connection, up to some number of messages, and its ends.
use Rattle.std.proofs.Common.{◌≡◌, ℕ, ◌+◌, ◌-◌, ◌<◌, ◌≤◌, inl, inr, Bool, true, false, List, [], ◌∷◌, ◌++◌, Option, Some, Result, Ok, Err, length, take, drop, refl, sym, ap, subst, ◌∙◌, arith, append-nil, length-append}
use Rattle.std.specs.Io.KnownBytes.{Consumes, Appends}
use Rattle.rs_face.proofs.Cited.{Consumes-nil, Consumes-trans, Appends-nil, Appends-trans, Rose-later}
use Rattle.rs_face.specs.Causes.{HasCause}
use Rattle.rs_face.specs.declared.sink.SinkFault.{SinkFault}
use Rattle.rs_face.specs.declared.sink.SinkFault.TheVariants as fault
use Rattle.rs_rules.specs.Histories.{History}
use Rattle.rs_request.specs.declared.fault.WireFault.{WireFault}
use Rattle.rs_request.specs.declared.message.RequestMessage.{RequestMessage}
use Rattle.rs_request.specs.declared.reader.RequestReader.{RequestReader}
use Rattle.rs_request.specs.Division.{message_at, Divides}
use Rattle.rs_request.specs.Laws.{fed_at}
use Rattle.rs_request.specs.Readers.{Stands}
use Rattle.rs_exchange.specs.declared.account.Config.{Config}
use Rattle.rs_front.specs.declared.input.Next.TheVariants as next
use Rattle.rs_front.specs.declared.serve.End.{End}
use Rattle.rs_front.specs.declared.serve.End.TheVariants.{Closed, Limit, ReadFault, NoMemory, BadMessage}
use Rattle.rs_face.specs.Courses.{Course}
use Rattle.rs_front.specs.Due.{Users, answer_of, answer_bytes, interim_of, message_bytes, due}
use Rattle.rs_front.specs.Ends.{closes, IsOpen, IsPrefixOf, Served, due_of, GoesFurther, IsReadShortly, IsInterimSoFar, IsCutTail, IsCut, EndsSo, Serves}
use Rattle.rs_exchange.specs.FixedReplies.{fault_bytes}
use Rattle.rs_front.specs.Inputs.{read_size, ReadsNext}
use Rattle.rs_exchange.specs.Requests.{asked_of}
use Rattle.rs_exchange.specs.FixedReplies.{starved_bytes}
use Rattle.rs_exchange.specs.Manners.{max_replies, manner_of}
use Rattle.rs_front.specs.Rests.{pending}
use Rattle.rs_front.specs.Sending.{IsCutOff, EndsWith, end_of}
use Rattle.rs_front.specs.Settling.{RepliesTo}
use Rattle.rs_front.proofs.DueLemmas.{at, along_push, due_more, due_stays, goes_later, faults_push, known_none, draws_push}
use Rattle.rs_front.proofs.InputLemmas.{on, Laws, read_shortly}
use Rattle.rs_front.proofs.SendLemmas.{cut_off}

-- ---- messages with one more

closes_push : (ms : List RequestMessage) (m : RequestMessage) → closes (ms ++ m ∷ []) ≡ m.close
closes_push [] m = refl
closes_push (k ∷ []) m = refl
closes_push (k ∷ l ∷ ms) m = closes_push (l ∷ ms) m

open_push : (ms : List RequestMessage) (m : RequestMessage) → closes ms ≡ false → IsOpen ms → IsOpen (ms ++ m ∷ [])
open_push [] m last open_ = tt
open_push (k ∷ []) m last open_ = (last, tt)
open_push (k ∷ l ∷ ms) m last open_ = (open_.0, open_push (l ∷ ms) m last open_.1)

-- the laws of divisions
abbrev pub GrowsLaw : Type 0
GrowsLaw = (ms : List RequestMessage) (place : ℕ) (bytes after : List ℕ) (end : ℕ) (rest : List ℕ)
    → Divides place bytes ms end rest → Divides place (bytes ++ after) ms end (rest ++ after)

abbrev pub PushLaw : Type 0
PushLaw = (ms : List RequestMessage) (m : RequestMessage) (place : ℕ) (bytes : List ℕ) (end : ℕ) (rest : List ℕ) (next : ℕ)
    → Divides place bytes ms end rest → message_at end rest ≡ Some (m, next) → Divides place bytes (ms ++ m ∷ []) next (drop (next - end) rest)

-- ---- so far

-- so many messages were read and replied to, and none of them asks to close
pub record SoFar (users : Users) (config : Config) (source sink wants entropy : Course (List ℕ)) (old : ℕ → History) (before now : ℕ) (reader : RequestReader) (count : ℕ) : Type 0 where
  pub served : Served users config source sink entropy old before now
  pub counted : length served.messages ≡ count
  pub going : closes served.messages ≡ false
  pub wrote_due : served.wrote ≡ due_of served
  pub stands : Stands reader (fed_at served.place served.rest false)
  pub source_later : source.before ≤ source.now
  pub sink_later : sink.before ≤ sink.now
  pub wants_later : wants.before ≤ wants.now
  pub shortly : IsReadShortly served

-- nothing was read or written
pub nothing_served : (quota me : ℕ → ℕ) (alone : Bool) (config : Config) (old : ℕ → History) (reader : RequestReader) (left written words : Option (List ℕ)) (n m w e k : ℕ)
    → Stands reader (fed_at 0 [] false)
    → SoFar (record { history = old; quota = quota; me = me; alone = alone }) config (record { old = left; new = left; before = n; now = n })
    (record { old = written; new = written; before = m; now = m }) (record { old = written; new = written; before = w; now = w })
    (record { old = words; new = words; before = e; now = e }) old k k reader 0
nothing_served quota me alone config old reader left written words n m w e k stands = record {
  served = record {
    read = [];
    wrote = [];
    messages = [];
    outcomes = [];
    place = 0;
    rest = [];
    consumed = Consumes-nil left;
    appended = Appends-nil written;
    division = (refl, refl);
    along = λ user. refl;
    unkept = omega arith;
    drawn = record { words = known_none words; failed = omega arith };
    few = omega arith;
    open_so_far = tt;
  };
  counted = refl;
  going = refl;
  wrote_due = refl;
  stands = stands;
  source_later = omega arith;
  sink_later = omega arith;
  wants_later = omega arith;
  shortly = omega arith;
}

-- the sink stopped, and counted that
stopped : (users : Users) (config : Config) (source sink wants entropy : Course (List ℕ)) (old : ℕ → History) (before now : ℕ)
    (served : Served users config source sink entropy old before now) (said : End) → IsCut served → IsCutOff sink wants said
    → Serves users config source sink wants entropy old before now said
stopped users config source sink wants entropy old before now served said cut why = elim why [
  | inl failed ↦ subst (Serves users config source sink wants entropy old before now) (sym failed.0) (served, (failed.1, cut))
  | inr want ↦ subst (Serves users config source sink wants entropy old before now) (sym want.0) (served, inr (want.1, cut))
]

module _ (grows : GrowsLaw) (push : PushLaw) (users : Users) (config : Config) (source sink wants entropy : Course (List ℕ)) (old : ℕ → History) (before now : ℕ) (reader : RequestReader) (count : ℕ)
    (so_far : SoFar users config source sink wants entropy old before now reader count) (free : count < max_replies) where
  -- more may come
  further : GoesFurther so_far.served.messages
  further = let c = so_far.counted in (omega (arith, c, free), so_far.going)

  -- the same once more was read and written
  abbrev served_to : (left written : Option (List ℕ)) (n k : ℕ) (read all : List ℕ) → Consumes source.new left read → Appends sink.old written all
      → Served users config (on source left n) (on sink written k) entropy old before now
  served_to left written n k read all consumed appended = record {
    read = so_far.served.read ++ read;
    wrote = all;
    messages = so_far.served.messages;
    outcomes = so_far.served.outcomes;
    place = so_far.served.place;
    rest = so_far.served.rest ++ read;
    consumed = Consumes-trans source.old source.new left so_far.served.read read so_far.served.consumed consumed;
    appended = appended;
    division = grows so_far.served.messages 0 so_far.served.read read so_far.served.place so_far.served.rest so_far.served.division;
    along = so_far.served.along;
    unkept = so_far.served.unkept;
    drawn = so_far.served.drawn;
    few = so_far.served.few;
    open_so_far = so_far.served.open_so_far;
  }

  -- what was written so far, and then these bytes
  wrote_more : (written : Option (List ℕ)) (bytes : List ℕ) → Appends sink.new written bytes → Appends sink.old written (so_far.served.wrote ++ bytes)
  wrote_more written bytes wrote = Appends-trans sink.old sink.new written so_far.served.wrote bytes so_far.served.appended wrote

  due_with : (bytes : List ℕ) → so_far.served.wrote ++ bytes ≡ due_of so_far.served ++ bytes
  due_with bytes = ap (λ (l : List ℕ). l ++ bytes) so_far.wrote_due

  -- the sink's wants of memory by then
  abbrev wants_to : (written : Option (List ℕ)) (w : ℕ) → Course (List ℕ)
  wants_to written w = on wants written w

  -- ---- ends at which nothing more is written

  pub ends_closed : (reader' : RequestReader) (left written : Option (List ℕ)) (n k w : ℕ)
      → ReadsNext so_far.served.place so_far.served.rest reader' (record { old = source.new; new = left; before = source.now; now = n })
      (record { old = sink.new; new = written; before = sink.now; now = k }) (record { old = sink.new; new = written; before = wants.now; now = w }) next.End
      → Serves users config (on source left n) (on sink written k) (on wants written w) entropy old before now Closed
  ends_closed reader' left written n k w reads = (
    served_to left written n k reads.read (so_far.served.wrote ++ []) reads.consumed (wrote_more written [] reads.comes.3),
    (append-nil so_far.served.wrote ∙ so_far.wrote_due, inr (further, reads.comes.1, reads.comes.0, reads.comes.2)),
  )

  pub ends_unread : (reader' : RequestReader) (left written : Option (List ℕ)) (n k w : ℕ)
      → ReadsNext so_far.served.place so_far.served.rest reader' (record { old = source.new; new = left; before = source.now; now = n })
      (record { old = sink.new; new = written; before = sink.now; now = k }) (record { old = sink.new; new = written; before = wants.now; now = w }) next.NotRead
      → Serves users config (on source left n) (on sink written k) (on wants written w) entropy old before now ReadFault
  ends_unread reader' left written n k w reads =
      let tail = pending so_far.served.place (so_far.served.rest ++ reads.read) in (
        served_to left written n k reads.read (so_far.served.wrote ++ tail) reads.consumed (wrote_more written tail reads.comes.2),
        (Rose-later source.before source.now n so_far.source_later reads.comes.1, further, reads.comes.0, due_with tail),
      )

  -- ---- ends at which the sink stopped

  -- what the sink counted since a later time, it counted since the first
  later_cut : (mid written : Option (List ℕ)) (j k v w : ℕ) (said : End) → sink.now ≤ j → wants.now ≤ v
      → IsCutOff (record { old = mid; new = written; before = j; now = k }) (record { old = mid; new = written; before = v; now = w }) said
      → IsCutOff (on sink written k) (on wants written w) said
  later_cut mid written j k v w said sinks wanted cut = elim cut [
    | inl failed ↦ inl (failed.0, Rose-later sink.before j k (let l = so_far.sink_later in omega (arith, l, sinks)) failed.1)
    | inr want ↦ inr (want.0, Rose-later wants.before v w (let l = so_far.wants_later in omega (arith, l, wanted)) want.1)
  ]

  -- a front of what may come was written
  cut_behind : (left written : Option (List ℕ)) (n k w : ℕ) (read front : List ℕ) (said : End) (consumed : Consumes source.new left read)
      → (appended : Appends sink.new written front)
      → IsCutTail (on source left n) so_far.served.place (so_far.served.rest ++ read) front
      → IsCutOff (on sink written k) (on wants written w) said
      → Serves users config (on source left n) (on sink written k) (on wants written w) entropy old before now said
  cut_behind left written n k w read front said consumed appended tail cut =
      let served = served_to left written n k read (so_far.served.wrote ++ front) consumed (wrote_more written front appended) in
      let behind : IsCut served = inr (record { front = front; further = further; wrote = due_with front; tail = tail }) in
      stopped users config (on source left n) (on sink written k) (on wants written w) entropy old before now served said behind cut

  pub ends_unwritten : (reader' : RequestReader) (left written : Option (List ℕ)) (n k w : ℕ) (why : SinkFault)
      → ReadsNext so_far.served.place so_far.served.rest reader' (record { old = source.new; new = left; before = source.now; now = n })
      (record { old = sink.new; new = written; before = sink.now; now = k }) (record { old = sink.new; new = written; before = wants.now; now = w }) (next.NotWritten why)
      → Serves users config (on source left n) (on sink written k) (on wants written w) entropy old before now (end_of why)
  ends_unwritten reader' left written n k w why reads =
      let tail = pending so_far.served.place (so_far.served.rest ++ reads.read) in
      cut_behind left written n k w reads.read (take reads.comes.0.0 tail) (end_of why) reads.consumed reads.comes.0.1
      (inl (reads.in_time so_far.shortly, (reads.comes.0.0, refl)))
      (later_cut sink.new written sink.now k wants.now w (end_of why) (omega arith) (omega arith) reads.comes.1)

  -- ---- ends with a last reply

  -- the last reply is written behind what was, or a front of it
  ends_with : (left mid written : Option (List ℕ)) (n j k v w : ℕ) (read first last : List ℕ) (end said : End)
      (consumed : Consumes source.new left read) → Appends sink.new mid first → sink.now ≤ j → wants.now ≤ v
      → ((front : List ℕ) → IsPrefixOf front last → IsCutTail (on source left n) so_far.served.place (so_far.served.rest ++ read) (first ++ front))
      → EndsWith (record { old = mid; new = written; before = j; now = k }) (record { old = mid; new = written; before = v; now = w }) last end said
      → ((appended : Appends sink.old written (so_far.served.wrote ++ (first ++ last)))
      → EndsSo users config (on source left n) (on sink written k) (on wants written w) entropy old before now
      (served_to left written n k read (so_far.served.wrote ++ (first ++ last)) consumed appended) end)
      → Serves users config (on source left n) (on sink written k) (on wants written w) entropy old before now said
  ends_with left mid written n j k v w read first last end said consumed wrote sinks wanted tail ends whole = elim ends [
    | inl all ↦
        let appended = wrote_more written (first ++ last) (Appends-trans sink.new mid written first last wrote all.0) in
        subst (Serves users config (on source left n) (on sink written k) (on wants written w) entropy old before now) (sym all.1)
        (served_to left written n k read (so_far.served.wrote ++ (first ++ last)) consumed appended, whole appended)
    | inr front ↦
        cut_behind left written n k w read (first ++ take front.0.0 last) said consumed
        (Appends-trans sink.new mid written first (take front.0.0 last) wrote front.0.1)
        (tail (take front.0.0 last) (front.0.0, refl))
        (later_cut mid written j k v w said sinks wanted front.1)
  ]

  pub ends_bad : (reader' : RequestReader) (left mid written : Option (List ℕ)) (n j k v w : ℕ) (f : WireFault) (said : End)
      → ReadsNext so_far.served.place so_far.served.rest reader' (record { old = source.new; new = left; before = source.now; now = n })
      (record { old = sink.new; new = mid; before = sink.now; now = j }) (record { old = sink.new; new = mid; before = wants.now; now = v }) (next.Bad f)
      → sink.now ≤ j → wants.now ≤ v
      → EndsWith (record { old = mid; new = written; before = j; now = k }) (record { old = mid; new = written; before = v; now = w }) (fault_bytes f.why) (BadMessage f) said
      → Serves users config (on source left n) (on sink written k) (on wants written w) entropy old before now said
  ends_bad reader' left mid written n j k v w f said reads sinks wanted ends =
      let tail = pending so_far.served.place (so_far.served.rest ++ reads.read) in
      ends_with left mid written n j k v w reads.read tail (fault_bytes f.why) (BadMessage f) said reads.consumed reads.comes.1 sinks wanted
      (λ front part. inr (inl (f, reads.comes.0, front, refl, part))) ends
      (λ appended. (further, reads.comes.0, due_with (tail ++ fault_bytes f.why)))

  pub ends_starved : (reader' : RequestReader) (left mid written : Option (List ℕ)) (n j k v w : ℕ) (said : End)
      → ReadsNext so_far.served.place so_far.served.rest reader' (record { old = source.new; new = left; before = source.now; now = n })
      (record { old = sink.new; new = mid; before = sink.now; now = j }) (record { old = sink.new; new = mid; before = wants.now; now = v }) next.NoMemory
      → sink.now ≤ j → wants.now ≤ v
      → EndsWith (record { old = mid; new = written; before = j; now = k }) (record { old = mid; new = written; before = v; now = w }) (starved_bytes true) NoMemory said
      → Serves users config (on source left n) (on sink written k) (on wants written w) entropy old before now said
  ends_starved reader' left mid written n j k v w said reads sinks wanted ends = elim reads.comes [
    | inl none ↦ by_first [] none (inl refl)
    | inr told ↦ by_first (pending so_far.served.place (so_far.served.rest ++ reads.read)) told (inr refl)
  ]
    where
      by_first : (first : List ℕ) → Appends sink.new mid first → IsInterimSoFar so_far.served.place (so_far.served.rest ++ reads.read) first
          → Serves users config (on source left n) (on sink written k) (on wants written w) entropy old before now said
      by_first first wrote so_far' =
          ends_with left mid written n j k v w reads.read first (starved_bytes true) NoMemory said reads.consumed wrote sinks wanted
          (λ front part. inr (inr (first, front, so_far', refl, part))) ends
          (λ appended. inl (record { first = first; further = further; so_far = so_far'; wrote = due_with (first ++ starved_bytes true) }))

  -- ---- a message

  module _ (laws : Laws) (new : ℕ → History) (faults : ℕ) (reader' : RequestReader) (left mid written words : Option (List ℕ)) (n j k v w e : ℕ) (m : RequestMessage)
      (reads : ReadsNext so_far.served.place so_far.served.rest reader' (record { old = source.new; new = left; before = source.now; now = n })
      (record { old = sink.new; new = mid; before = sink.now; now = j }) (record { old = sink.new; new = mid; before = wants.now; now = v }) (next.Message m)) where
    -- what was read behind the message is less than one read gives
    shortly_now : length (drop (reads.comes.0 - so_far.served.place) (so_far.served.rest ++ reads.read)) < read_size
    shortly_now =
        let in_time = reads.in_time so_far.shortly in
        read_shortly laws so_far.served.place (so_far.served.rest ++ reads.read) in_time.0 m reads.comes.0 in_time.1 reads.comes.1

    -- what the reply says of the message, whether it was written or not
    abbrev Replied : {A E : Type 0} → Result A E → Type 0
    Replied result = RepliesTo (at users new) config count m users.history now faults (record { old = entropy.new; new = words; before = entropy.now; now = e })
        (record { old = mid; new = written; before = j; now = k }) result

    abbrev bytes_of : {A E : Type 0} (result : Result A E) → Replied result → List ℕ
    bytes_of result replied = interim_of m ++ answer_bytes (manner_of count m) (answer_of (at users new) (asked_of config m) replied.outcome)

    abbrev pushed : {A E : Type 0} (result : Result A E) (replied : Replied result) (all : List ℕ) → Appends sink.old written all
        → Served (at users new) config (on source left n) (on sink written k) (on entropy words e) old before faults
    pushed result replied all appended = record {
      read = so_far.served.read ++ reads.read;
      wrote = all;
      messages = so_far.served.messages ++ m ∷ [];
      outcomes = so_far.served.outcomes ++ replied.outcome ∷ [];
      place = reads.comes.0;
      rest = drop (reads.comes.0 - so_far.served.place) (so_far.served.rest ++ reads.read);
      consumed = Consumes-trans source.old source.new left so_far.served.read reads.read so_far.served.consumed reads.consumed;
      appended = appended;
      division = push so_far.served.messages m 0 (so_far.served.read ++ reads.read) so_far.served.place (so_far.served.rest ++ reads.read) reads.comes.0
          (grows so_far.served.messages 0 so_far.served.read reads.read so_far.served.place so_far.served.rest so_far.served.division) reads.comes.1;
      along = along_push users users.history new config so_far.served.messages so_far.served.outcomes m replied.outcome old so_far.served.along replied.goes_on;
      unkept = faults_push so_far.served.outcomes replied.outcome before now faults so_far.served.unkept replied.unkept;
      drawn = draws_push so_far.served.outcomes replied.outcome entropy words e so_far.served.drawn replied.drawn;
      few = let c = so_far.counted in omega (arith, c, free, length-append so_far.served.messages (m ∷ []));
      open_so_far = open_push so_far.served.messages m so_far.going so_far.served.open_so_far;
    }

    -- what is due with this message
    due_now : {A E : Type 0} (result : Result A E) (replied : Replied result)
        → so_far.served.wrote ++ bytes_of result replied ≡ due (at users new) config 0 (so_far.served.messages ++ m ∷ []) (so_far.served.outcomes ++ replied.outcome ∷ [])
    due_now result replied =
        due_with (bytes_of result replied)
        ∙ sym (due_more users users.history new config so_far.served.messages so_far.served.outcomes m replied.outcome old so_far.served.along replied.goes_on
        ∙ ap (λ c. due_of so_far.served ++ message_bytes (at users new) config c m replied.outcome) so_far.counted)

    pub served_more : {A E : Type 0} (x : A) → Replied {A = A} {E = E} (Ok x) → m.close ≡ false → source.now ≤ n → sink.now ≤ k → wants.now ≤ w
        → SoFar (at users new) config (on source left n) (on sink written k) (on wants written w) (on entropy words e) old before faults reader' (count + 1)
    served_more {A} {E} x replied open_ source_later sink_later wants_later =
        let wrote = Appends-trans sink.new mid written (interim_of m) (answer_bytes (manner_of count m) (answer_of (at users new) (asked_of config m) replied.outcome)) reads.comes.3 replied.writes in
        record {
          served = pushed {A = A} {E = E} (Ok x) replied (so_far.served.wrote ++ bytes_of {A = A} {E = E} (Ok x) replied) (wrote_more written (bytes_of {A = A} {E = E} (Ok x) replied) wrote);
          counted = let c = so_far.counted in omega (arith, c, length-append so_far.served.messages (m ∷ []));
          going = closes_push so_far.served.messages m ∙ open_;
          wrote_due = due_now {A = A} {E = E} (Ok x) replied;
          stands = reads.comes.2;
          source_later = let l = so_far.source_later in omega (arith, l, source_later);
          sink_later = let l = so_far.sink_later in omega (arith, l, sink_later);
          wants_later = let l = so_far.wants_later in omega (arith, l, wants_later);
          shortly = shortly_now;
        }

    pub ends_asked : {A E : Type 0} (x : A) → Replied {A = A} {E = E} (Ok x) → m.close ≡ true
        → Serves (at users new) config (on source left n) (on sink written k) (on wants written w) (on entropy words e) old before faults Closed
    ends_asked {A} {E} x replied close =
        let wrote = Appends-trans sink.new mid written (interim_of m) (answer_bytes (manner_of count m) (answer_of (at users new) (asked_of config m) replied.outcome)) reads.comes.3 replied.writes in (
          pushed {A = A} {E = E} (Ok x) replied (so_far.served.wrote ++ bytes_of {A = A} {E = E} (Ok x) replied) (wrote_more written (bytes_of {A = A} {E = E} (Ok x) replied) wrote),
          (due_now {A = A} {E = E} (Ok x) replied, inl (closes_push so_far.served.messages m ∙ close, shortly_now)),
        )

    -- its reply couldn't be written
    pub ends_unreplied : {A : Type 0} (why : SinkFault) → Replied {A = A} {E = SinkFault} (Err why) → HasCause {A = A} j k fault.Failed (Err why)
        → HasCause {A = A} v w fault.NoMemory (Err why) → sink.now ≤ j → wants.now ≤ v
        → Serves (at users new) config (on source left n) (on sink written k) (on wants written w) (on entropy words e) old before faults (end_of why)
    ends_unreplied {A} why replied cause want sinks wanted =
        let reply = answer_bytes (manner_of count m) (answer_of (at users new) (asked_of config m) replied.outcome) in
        let front = take replied.writes.0 reply in
        let wrote = Appends-trans sink.new mid written (interim_of m) front reads.comes.3 replied.writes.1 in
        let all = so_far.served.wrote ++ (interim_of m ++ front) in
        let served = pushed {A = A} {E = SinkFault} (Err why) replied all (wrote_more written (interim_of m ++ front) wrote) in
        let goes = goes_later (at users new) (asked_of config m) replied.outcome users.history new replied.goes_on in
        let stays = due_stays users users.history new config 0 so_far.served.messages so_far.served.outcomes old so_far.served.along goes in
        let cut : IsCut served = inl (record {
          messages = so_far.served.messages;
          outcomes = so_far.served.outcomes;
          last = m;
          outcome = replied.outcome;
          front = front;
          all = refl;
          each = refl;
          wrote = due_with (interim_of m ++ front) ∙ ap (λ (l : List ℕ). l ++ (interim_of m ++ front)) (sym stays);
          part = subst (λ (c : ℕ). IsPrefixOf front (answer_bytes (manner_of c m) (answer_of (at users new) (asked_of config m) replied.outcome)))
              (sym so_far.counted) (replied.writes.0, refl);
          shortly = shortly_now;
        }) in
        stopped (at users new) config (on source left n) (on sink written k) (on wants written w) (on entropy words e) old before faults served (end_of why) cut
        (later_cut mid written j k v w (end_of why) sinks wanted
        (cut_off (record { old = mid; new = written; before = j; now = k }) (record { old = mid; new = written; before = v; now = w }) why {A = A} cause want))

-- as many as are served
pub ends_limit : (users : Users) (config : Config) (source sink wants entropy : Course (List ℕ)) (old : ℕ → History) (before now : ℕ) (reader : RequestReader) (count : ℕ)
    → SoFar users config source sink wants entropy old before now reader count → count ≡ max_replies → Serves users config source sink wants entropy old before now Limit
ends_limit users config source sink wants entropy old before now reader count so_far all = (so_far.served, (so_far.counted ∙ all, so_far.going, so_far.wrote_due, so_far.shortly))

-- what a reply says of users holds where their quotas, numbers and desk are the same
pub replies_as : (h : ℕ → History) (quota quota' me me' : ℕ → ℕ) (alone alone' : Bool) (config : Config) (count : ℕ) (m : RequestMessage) (old : ℕ → History)
    (before now : ℕ) (entropy sink : Course (List ℕ)) {A E : Type 0} (result : Result A E) → quota ≡ quota' → me ≡ me' → alone ≡ alone'
    → RepliesTo (record { history = h; quota = quota; me = me; alone = alone }) config count m old before now entropy sink result
    → RepliesTo (record { history = h; quota = quota'; me = me'; alone = alone' }) config count m old before now entropy sink result
replies_as h quota quota' me me' alone alone' config count m old before now entropy sink result a b c replied =
    let same : ◌≡◌ {A = Users} (record { history = h; quota = quota; me = me; alone = alone }) (record { history = h; quota = quota'; me = me'; alone = alone' }) =
    (λ i. record { history = h; quota = a i; me = b i; alone = c i }) in
    subst (λ (u : Users). RepliesTo u config count m old before now entropy sink result) same replied
