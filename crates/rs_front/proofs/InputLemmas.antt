-- Reading up to the next message.
use Rattle.std.proofs.Common.{◌≡◌, ℕ, zero, suc, ◌+◌, ◌-◌, ◌<◌, ◌≤◌, ◌⊎◌, inl, inr, Bool, true, false, not, ◌&&◌, cond, List, [], ◌++◌, length, take, drop, Option, Some, None, Result, Ok, Err, refl, sym, ap, ◌∙◌, subst, arith, append-nil, length-append}
use Rattle.std.specs.Prelude.{◌≢◌, ◌↔◌}
use Rattle.std.proofs.lemmas.List.{append_assoc, length-drop, take-append-le, take-append-drop}
use Rattle.std.proofs.Math.Seq.{take-append_seam}
use Rattle.std.specs.Io.KnownBytes.{Consumes, Appends, IsAtEnd}
use Rattle.rs_face.specs.Causes.{HasCause}
use Rattle.rs_face.specs.Told.{AppendsFront}
use Rattle.rs_face.specs.declared.sink.SinkFault.{SinkFault}
use Rattle.rs_face.proofs.Cited.{Consumes-nil, Consumes-trans, Appends-nil}
use Rattle.rs_face.proofs.Cited.{Rose-later}
use Rattle.rs_request.specs.declared.fault.NextFault.TheVariants.{Wire}
use Rattle.rs_request.specs.declared.fault.WireFault.{WireFault}
use Rattle.rs_request.specs.declared.fault.WireWhy.TheVariants.{Truncated}
use Rattle.rs_request.specs.Bodies.{fault_at}
use Rattle.rs_request.specs.Limits.{max_message}
use Rattle.rs_request.specs.declared.message.RequestMessage.{RequestMessage}
use Rattle.rs_request.specs.declared.message.Step.TheVariants.{More, Interim, Message}
use Rattle.rs_request.specs.declared.reader.RequestReader.{RequestReader}
use Rattle.rs_request.specs.Division.{message_at, fed_next}
use Rattle.rs_request.specs.Laws.{fed_at, awaits}
use Rattle.rs_request.specs.Readers.{Stands, fed_count}
use Rattle.rs_request.specs.Readings.{Fed, Answer, more, interim, message, fault, next_of, step_of, fed_after, fed_with, finish_of}
use Rattle.rs_request.specs.Spelling.{SpellsRequest}
use Rattle.rs_request.specs.Taken.{BeginsWithRequest}
use Rattle.rs_front.specs.declared.input.Next.{Next}
use Rattle.rs_front.specs.declared.input.Next.TheVariants as next
use Rattle.rs_face.specs.Courses.{Course}
use Rattle.rs_front.specs.Due.{interim_of}
use Rattle.rs_front.specs.Inputs.{read_size, ending, ComesOn, most_read, ReadsOn, IsLazy, IsReadLazily, Comes, IsReadInTime, ReadsNext}
use Rattle.rs_front.proofs.SendLemmas.{cut_off}
use Rattle.rs_exchange.specs.FixedReplies.{interim_bytes}
use Rattle.rs_front.specs.Rests.{after_last, interim_by, pending}

-- ---- what a step says of the next_of

more_of : (a : Answer) → step_of a ≡ Ok More → a ≡ more
more_of more e = refl
more_of interim e = cc
more_of (message m end) e = cc
more_of (fault f) e = cc

interim_is : (a : Answer) → step_of a ≡ Ok Interim → a ≡ interim
interim_is more e = cc
interim_is interim e = refl
interim_is (message m end) e = cc
interim_is (fault f) e = cc

fault_of : (a : Answer) (f : WireFault) → step_of a ≡ Err (Wire f) → a ≡ fault f
fault_of more f e = cc
fault_of interim f e = cc
fault_of (message m end) f e = cc
fault_of (fault g) f e = cc

-- how many bytes a reader was fed
pub count_of : (r : RequestReader) (fed : Fed) → Stands r fed → fed_count r ≡ fed.place + length fed.bytes
unfolding Stands fed_count
count_of r fed stands = stands.count

-- ---- reading on

-- bytes were read, and nothing else is known of them
pub record ReadSoFar (place : ℕ) (bytes : List ℕ) (told : Bool) (new : RequestReader) (source : Course (List ℕ)) : Type 0 where
  pub read : List ℕ
  pub consumed : Consumes source.old source.new read
  pub stands : Stands new (fed_at place (bytes ++ read) told)
  pub lazy : IsReadLazily place told bytes read

pub nothing_read : (place : ℕ) (bytes : List ℕ) (told : Bool) (r : RequestReader) (left : Option (List ℕ)) (n : ℕ)
    → Stands r (fed_at place bytes told) → ReadSoFar place bytes told r (record { old = left; new = left; before = n; now = n })
nothing_read place bytes told r left n stands = record {
  read = [];
  consumed = Consumes-nil left;
  stands = subst (λ (l : List ℕ). Stands r (fed_at place l told)) (sym (append-nil bytes)) stands;
  lazy = inl refl;
}

-- the last piece was read where more was needed
pub lazy_more : (place : ℕ) (bytes : List ℕ) (told : Bool) (read piece : List ℕ) → next_of (fed_at place (bytes ++ read) told) ≡ more
    → length piece ≤ read_size → IsLazy place told (bytes ++ (read ++ piece))
lazy_more place bytes told read piece needed room = record {
  before = bytes ++ read;
  last = piece;
  whole = sym (append_assoc bytes read piece);
  room = room;
  needed = inr needed;
}

-- an object that was used once more
abbrev pub on : Course (List ℕ) → Option (List ℕ) → ℕ → Course (List ℕ)
on course new now = record { old = course.old; new = new; before = course.before; now = now }

-- a piece was read
pub read_more : (place : ℕ) (bytes : List ℕ) (told : Bool) (r r' : RequestReader) (source : Course (List ℕ)) (left : Option (List ℕ)) (now : ℕ) (piece : List ℕ)
    → (so_far : ReadSoFar place bytes told r source) → Consumes source.new left piece
    → next_of (fed_at place (bytes ++ so_far.read) told) ≡ more → length piece ≤ read_size
    → Stands r' (fed_with (fed_at place (bytes ++ so_far.read) told) piece) → ReadSoFar place bytes told r' (on source left now)
read_more place bytes told r r' source left now piece so_far consumed needed room stands = record {
  read = so_far.read ++ piece;
  consumed = Consumes-trans source.old source.new left so_far.read piece so_far.consumed consumed;
  stands = subst (λ (l : List ℕ). Stands r' (fed_at place l told)) (append_assoc bytes so_far.read piece) stands;
  lazy = inr (lazy_more place bytes told so_far.read piece needed room);
}

-- the law of what `next` gives
abbrev pub NextLaw : Type 0
NextLaw = (fed : Fed) (m : RequestMessage) → step_of (next_of fed) ≡ Ok (Message m)
    → (next : ℕ) × (message_at fed.place fed.bytes ≡ Some (m, next)) × (fed_after fed (next_of fed) ≡ fed_next fed next)

pub came_message : NextLaw → (place : ℕ) (bytes : List ℕ) (told : Bool) (r : RequestReader) (source : Course (List ℕ)) (read : List ℕ) (m : RequestMessage)
    → Consumes source.old source.new read → IsReadLazily place told bytes read
    → step_of (next_of (fed_at place (bytes ++ read) told)) ≡ Ok (Message m)
    → Stands r (fed_after (fed_at place (bytes ++ read) told) (next_of (fed_at place (bytes ++ read) told)))
    → ReadsOn place bytes told r source (Some (next.Message m))
came_message law place bytes told r source read m consumed lazy is stands =
    let given = law (fed_at place (bytes ++ read) told) m is in
    record {
      read = read;
      consumed = consumed;
      comes = (given.0, given.1, is, subst (Stands r) given.2 stands);
      lazy = lazy;
    }

pub came_interim : (place : ℕ) (bytes : List ℕ) (told : Bool) (r : RequestReader) (source : Course (List ℕ)) (read : List ℕ)
    → Consumes source.old source.new read → IsReadLazily place told bytes read
    → step_of (next_of (fed_at place (bytes ++ read) told)) ≡ Ok Interim
    → Stands r (fed_after (fed_at place (bytes ++ read) told) (next_of (fed_at place (bytes ++ read) told)))
    → ReadsOn place bytes told r source None
came_interim place bytes told r source read consumed lazy is stands =
    let due = interim_is (next_of (fed_at place (bytes ++ read) told)) is in
    record {
      read = read;
      consumed = consumed;
      comes = (due, subst (λ (a : Answer). Stands r (fed_after (fed_at place (bytes ++ read) told) a)) due stands);
      lazy = lazy;
    }

pub came_fault : (place : ℕ) (bytes : List ℕ) (told : Bool) (r : RequestReader) (source : Course (List ℕ)) (read : List ℕ) (f : WireFault)
    → Consumes source.old source.new read → IsReadLazily place told bytes read
    → step_of (next_of (fed_at place (bytes ++ read) told)) ≡ Err (Wire f)
    → ReadsOn place bytes told r source (Some (next.Bad f))
came_fault place bytes told r source read f consumed lazy is = record {
  read = read;
  consumed = consumed;
  comes = inl (fault_of (next_of (fed_at place (bytes ++ read) told)) f is);
  lazy = lazy;
}

-- nothing is known where memory was wanted
pub came_nothing : (place : ℕ) (bytes : List ℕ) (told : Bool) (r : RequestReader) (source : Course (List ℕ)) (read : List ℕ)
    → Consumes source.old source.new read → IsReadLazily place told bytes read → ReadsOn place bytes told r source (Some next.NoMemory)
came_nothing place bytes told r source read consumed lazy = record { read = read; consumed = consumed; comes = tt; lazy = lazy }

-- the reader waits for more
pub waits : (place : ℕ) (bytes : List ℕ) (told : Bool) (r : RequestReader) → step_of (next_of (fed_at place bytes told)) ≡ Ok More
    → Stands r (fed_after (fed_at place bytes told) (next_of (fed_at place bytes told)))
    → (next_of (fed_at place bytes told) ≡ more) × Stands r (fed_at place bytes told)
waits place bytes told r is stands =
    let due = more_of (next_of (fed_at place bytes told)) is in
    (due, subst (λ (a : Answer). Stands r (fed_after (fed_at place bytes told) a)) due stands)

-- ---- the next message

-- what is known of a request before it is whole, and of one that was read
pub record Laws : Type 0 where
  pub stays : (place : ℕ) (bytes after : List ℕ) → next_of (fed_at place bytes false) ≡ interim → next_of (fed_at place (bytes ++ after) false) ≡ interim
  pub told : (place : ℕ) (bytes : List ℕ) → (next_of (fed_at place bytes false) ≡ interim) ⊎ (next_of (fed_at place bytes true) ≡ next_of (fed_at place bytes false))
  pub cut : (place : ℕ) (bytes : List ℕ) → next_of (fed_at place bytes false) ≡ interim → finish_of (fed_at place bytes true) ≢ Ok tt
  pub begins : (place : ℕ) (bytes : List ℕ) (m : RequestMessage) (next : ℕ) → message_at place bytes ≡ Some (m, next) → BeginsWithRequest place bytes m next
  pub given : (fed : Fed) (m : RequestMessage) (next : ℕ) → fed.fault ≡ None → BeginsWithRequest fed.place fed.bytes m next
      → next_of fed ≡ cond (awaits m && not fed.told) interim (message m next)

-- whether the interim reply is told plays no part at the end
finish_same : (place : ℕ) (bytes : List ℕ) → finish_of (fed_at place bytes false) ≡ finish_of (fed_at place bytes true)
unfolding finish_of
finish_same place bytes = refl

-- where the next_of isn't the interim reply, it is the same once that was told
told_same : Laws → (place : ℕ) (bytes : List ℕ) (a : Answer) → next_of (fed_at place bytes false) ≡ a → a ≢ interim → after_last place bytes ≡ a
told_same laws place bytes a is other = elim (laws.told place bytes) [
  | inl due ↦ absurd (other (sym is ∙ due))
  | inr same ↦ same ∙ is
]

none_pending : (place : ℕ) (bytes : List ℕ) (a : Answer) → next_of (fed_at place bytes false) ≡ a → interim_by a ≡ [] → [] ≡ pending place bytes
none_pending place bytes a is none = sym (ap interim_by is ∙ none)

interim_pending : (place : ℕ) (bytes : List ℕ) → next_of (fed_at place bytes false) ≡ interim → interim_bytes ≡ pending place bytes
interim_pending place bytes is = sym (ap interim_by is)

-- a message that was given at once doesn't wait for the interim reply, and one behind that reply does
given_plain : Laws → (place : ℕ) (rest : List ℕ) (m : RequestMessage) (end : ℕ) → message_at place rest ≡ Some (m, end)
    → step_of (next_of (fed_at place rest false)) ≡ Ok (Message m) → [] ≡ interim_of m
given_plain laws place rest m end is step = by_test (awaits m) (sym (ap step_of (laws.given (fed_at place rest false) m end refl (laws.begins place rest m end is))) ∙ step)
  where
    by_test : (b : Bool) → step_of (cond (b && true) interim (message m end)) ≡ Ok (Message m) → [] ≡ cond b interim_bytes []
    by_test true e = cc
    by_test false e = refl

given_told : Laws → (place : ℕ) (rest : List ℕ) (m : RequestMessage) (end : ℕ) → message_at place rest ≡ Some (m, end)
    → next_of (fed_at place rest false) ≡ interim → interim_bytes ≡ interim_of m
given_told laws place rest m end is due = by_test (awaits m) (sym (laws.given (fed_at place rest false) m end refl (laws.begins place rest m end is)) ∙ due)
  where
    by_test : (b : Bool) → cond (b && true) interim (message m end) ≡ interim → interim_bytes ≡ cond b interim_bytes []
    by_test true e = refl
    by_test false e = cc

-- nothing was written
comes_plain : Laws → (place : ℕ) (rest : List ℕ) (r : RequestReader) (source sink wants : Course (List ℕ)) (n : Next) → Appends sink.old sink.new []
    → ComesOn place rest false r source (Some n) → Comes place rest r source sink wants n
comes_plain laws place rest r source sink wants (next.Message m) wrote comes =
    (comes.0, comes.1, comes.3, subst (Appends sink.old sink.new) (given_plain laws place rest m comes.0 comes.1 comes.2) wrote)
comes_plain laws place rest r source sink wants next.End wrote comes =
    (told_same laws place rest more comes.0 (λ e. cc), comes.1, sym (finish_same place rest) ∙ comes.2, wrote)
comes_plain laws place rest r source sink wants (next.Bad f) wrote comes = elim comes [
  | inl is ↦ (
    inl (told_same laws place rest (fault f) is (λ e. cc)),
    subst (Appends sink.old sink.new) (none_pending place rest (fault f) is refl) wrote,
  )
  | inr cut ↦ (
    inr (told_same laws place rest more cut.0 (λ e. cc), cut.1, sym (finish_same place rest) ∙ cut.2),
    subst (Appends sink.old sink.new) (none_pending place rest more cut.0 refl) wrote,
  )
]
comes_plain laws place rest r source sink wants next.NotRead wrote comes = (
  told_same laws place rest more comes.0 (λ e. cc),
  comes.1,
  subst (Appends sink.old sink.new) (none_pending place rest more comes.0 refl) wrote,
)
comes_plain laws place rest r source sink wants next.NoMemory wrote comes = inl wrote
comes_plain laws place rest r source sink wants (next.NotWritten e) wrote comes = absurd comes

-- the interim reply was written
comes_told : Laws → (place : ℕ) (rest : List ℕ) (r : RequestReader) (source sink wants : Course (List ℕ)) (n : Next) → Appends sink.old sink.new interim_bytes
    → next_of (fed_at place rest false) ≡ interim → ComesOn place rest true r source (Some n) → Comes place rest r source sink wants n
comes_told laws place rest r source sink wants (next.Message m) wrote due comes =
    (comes.0, comes.1, comes.3, subst (Appends sink.old sink.new) (given_told laws place rest m comes.0 comes.1 due) wrote)
comes_told laws place rest r source sink wants next.End wrote due comes = absurd (laws.cut place rest due comes.2)
comes_told laws place rest r source sink wants (next.Bad f) wrote due comes =
    (comes, subst (Appends sink.old sink.new) (interim_pending place rest due) wrote)
comes_told laws place rest r source sink wants next.NotRead wrote due comes =
    (comes.0, comes.1, subst (Appends sink.old sink.new) (interim_pending place rest due) wrote)
comes_told laws place rest r source sink wants next.NoMemory wrote due comes =
    inr (subst (Appends sink.old sink.new) (interim_pending place rest due) wrote)
comes_told laws place rest r source sink wants (next.NotWritten e) wrote due comes = absurd comes

-- what was there is less than one read gives, and nothing was read too early
lazy_of : (place : ℕ) (told : Bool) (bytes read : List ℕ) → length bytes < read_size → IsReadLazily place told bytes read → IsLazy place told (bytes ++ read)
lazy_of place told bytes read short (inl none) = record {
  before = [];
  last = bytes ++ read;
  whole = refl;
  room = let same = whole_length in omega (arith, short, same);
  needed = inl (refl, let same = whole_length in omega (arith, short, same));
}
  where
    whole_length : length (bytes ++ read) ≡ length bytes
    whole_length = ap (λ (l : List ℕ). length (bytes ++ l)) none ∙ ap (λ (l : List ℕ). length l) (append-nil bytes)
lazy_of place told bytes read short (inr lazy) = lazy

-- a message that was read no further than its last read's end
in_time_of : (place : ℕ) (rest : List ℕ) (told : Bool) (source : Course (List ℕ)) (r : RequestReader) (came : Next) → IsLazy place told rest
    → ComesOn place rest told r source (Some came) → IsReadInTime place rest came
in_time_of place rest told source r (next.Message m) lazy comes = (told, lazy)
in_time_of place rest told source r (next.NotWritten e) lazy comes = absurd comes
in_time_of place rest told source r next.End lazy comes = tt
in_time_of place rest told source r (next.Bad f) lazy comes = tt
in_time_of place rest told source r next.NotRead lazy comes = tt
in_time_of place rest told source r next.NoMemory lazy comes = tt

-- a message, an end or a fault came, and no interim reply was due
pub reads_plain : Laws → (place : ℕ) (bytes : List ℕ) (r : RequestReader) (source : Course (List ℕ)) (written : Option (List ℕ)) (n k : ℕ) (came : Next)
    → ReadsOn place bytes false r source (Some came)
    → ReadsNext place bytes r source (record { old = written; new = written; before = n; now = n }) (record { old = written; new = written; before = k; now = k }) came
reads_plain laws place bytes r source written n k came reads = record {
  read = reads.read;
  consumed = reads.consumed;
  comes = comes_plain laws place (bytes ++ reads.read) r source (record { old = written; new = written; before = n; now = n })
      (record { old = written; new = written; before = k; now = k }) came (Appends-nil written) reads.comes;
  in_time = λ short. in_time_of place (bytes ++ reads.read) false source r came (lazy_of place false bytes reads.read short reads.lazy) reads.comes;
}

-- the interim reply was due and couldn't be written
pub reads_unwritten : (place : ℕ) (bytes : List ℕ) (r : RequestReader) (source sink wants : Course (List ℕ)) (why : SinkFault)
    → ReadsOn place bytes false r source None → {A : Type 0} → AppendsFront sink.old sink.new interim_bytes
    → HasCause {A = A} sink.before sink.now SinkFault.Failed (Err why) → HasCause {A = A} wants.before wants.now SinkFault.NoMemory (Err why)
    → ReadsNext place bytes r source sink wants (next.NotWritten why)
reads_unwritten place bytes r source sink wants why reads {A} front cause want = record {
  read = reads.read;
  consumed = reads.consumed;
  comes = (subst (AppendsFront sink.old sink.new) (interim_pending place (bytes ++ reads.read) reads.comes.0) front, cut_off sink wants why {A = A} cause want);
  in_time = λ short. lazy_of place false bytes reads.read short reads.lazy;
}

-- a later fault is one of the whole
later_fault : (place : ℕ) (rest : List ℕ) (told : Bool) (r : RequestReader) (old mid : Option (List ℕ)) (first : ℕ) (source : Course (List ℕ)) (n : Option Next) → first ≤ source.before
    → ComesOn place rest told r source n → ComesOn place rest told r (record { old = old; new = source.new; before = first; now = source.now }) n
later_fault place rest told r old mid first source None low comes = comes
later_fault place rest told r old mid first source (Some (next.Message m)) low comes = comes
later_fault place rest told r old mid first source (Some next.End) low comes = comes
later_fault place rest told r old mid first source (Some (next.Bad f)) low comes = comes
later_fault place rest told r old mid first source (Some next.NotRead) low comes = (comes.0, Rose-later first source.before source.now low comes.1)
later_fault place rest told r old mid first source (Some next.NoMemory) low comes = comes
later_fault place rest told r old mid first source (Some (next.NotWritten e)) low comes = comes

-- what was unwrapped came
pub came_some : (place : ℕ) (bytes : List ℕ) (r : RequestReader) (source : Course (List ℕ)) (o : Option Next) (came : Next) → o ≡ Some came
    → ReadsOn place bytes true r source o → ReadsOn place bytes true r source (Some came)
came_some place bytes r source o came is reads = subst (ReadsOn place bytes true r source) is reads

-- where nothing was read behind the interim reply, the read before it brought all; else the last read came where more was needed
told_in_time : (place : ℕ) (rest read : List ℕ) → IsLazy place false rest → IsReadLazily place true rest read → (told : Bool) × IsLazy place told (rest ++ read)
told_in_time place rest read lazy (inl none) =
    (false, subst (IsLazy place false) (sym (ap (λ (l : List ℕ). rest ++ l) none ∙ append-nil rest)) lazy)
told_in_time place rest read lazy (inr behind) = (true, behind)

told_time : (place : ℕ) (rest read : List ℕ) (source : Course (List ℕ)) (r : RequestReader) (came : Next) → IsLazy place false rest
    → IsReadLazily place true rest read → ComesOn place (rest ++ read) true r source (Some came) → IsReadInTime place (rest ++ read) came
told_time place rest read source r (next.Message m) lazy behind comes = told_in_time place rest read lazy behind
told_time place rest read source r (next.NotWritten e) lazy behind comes = absurd comes
told_time place rest read source r next.End lazy behind comes = tt
told_time place rest read source r (next.Bad f) lazy behind comes = tt
told_time place rest read source r next.NotRead lazy behind comes = tt
told_time place rest read source r next.NoMemory lazy behind comes = tt

-- a message, an end or a fault came behind the interim reply
pub reads_told : Laws → (place : ℕ) (bytes : List ℕ) (mid r : RequestReader) (source : Course (List ℕ)) (left : Option (List ℕ)) (now : ℕ) (sink wants : Course (List ℕ)) (came : Next)
    → source.before ≤ source.now → Appends sink.old sink.new interim_bytes → (due : ReadsOn place bytes false mid source None)
    → ReadsOn place (bytes ++ due.read) true r (record { old = source.new; new = left; before = source.now; now = now }) (Some came)
    → ReadsNext place bytes r (on source left now) sink wants came
reads_told laws place bytes mid r source left now sink wants came later wrote due reads =
    let rest : (bytes ++ due.read) ++ reads.read ≡ bytes ++ (due.read ++ reads.read) = append_assoc bytes due.read reads.read in
    record {
      read = due.read ++ reads.read;
      consumed = Consumes-trans source.old source.new left due.read reads.read due.consumed reads.consumed;
      comes = subst (λ (l : List ℕ). Comes place l r (on source left now) sink wants came) rest
          (comes_told laws place ((bytes ++ due.read) ++ reads.read) r (on source left now) sink wants came wrote
          (laws.stays place (bytes ++ due.read) reads.read due.comes.0)
          (later_fault place ((bytes ++ due.read) ++ reads.read) true r source.old source.new source.before
          (record { old = source.new; new = left; before = source.now; now = now }) (Some came) later reads.comes));
      in_time = λ short. subst (λ (l : List ℕ). IsReadInTime place l came) rest
          (told_time place (bytes ++ due.read) reads.read (record { old = source.new; new = left; before = source.now; now = now }) r came
          (lazy_of place false bytes due.read short due.lazy) reads.lazy reads.comes);
    }

-- what is read behind a message is less than one read gives
pub read_shortly : Laws → (place : ℕ) (rest : List ℕ) (told : Bool) (m : RequestMessage) (end : ℕ) → IsLazy place told rest
    → message_at place rest ≡ Some (m, end) → length (drop (end - place) rest) < read_size
read_shortly laws place rest told m end lazy is =
    let begun = laws.begins place rest m end is in
    by_need begun.text begun.rest begun.whole begun.end begun.spells lazy.needed
  where
    by_need : (text later : List ℕ) → rest ≡ text ++ later → end ≡ place + length text → SpellsRequest place m text
        → ((lazy.before ≡ []) × (length lazy.last < read_size)) ⊎ (next_of (fed_at place lazy.before told) ≡ more)
        → length (drop (end - place) rest) < read_size
    by_need text later whole ends spells (inl short) =
        let one : length rest ≡ length lazy.before + length lazy.last = ap (λ (l : List ℕ). length l) lazy.whole ∙ length-append lazy.before lazy.last in
        let none : length lazy.before ≡ 0 = ap (λ (l : List ℕ). length l) short.0 in
        let left = length-drop (end - place) rest in
        omega (arith, one, none, short.1, left)
    by_need text later whole ends spells (inr needed) =
        let one : length rest ≡ length lazy.before + length lazy.last = ap (λ (l : List ℕ). length l) lazy.whole ∙ length-append lazy.before lazy.last in
        let left = length-drop (end - place) rest in
        let room = lazy.room in
        elim (at_most (length text) (length lazy.before)) [
          | inl within ↦ absurd (not_more text (message_front text lazy.before lazy.last later within (sym lazy.whole ∙ whole) spells ends) needed)
          | inr past ↦ omega (arith, one, left, room, ends, past)
        ]
      where
        at_most : (a b : ℕ) → (a ≤ b) ⊎ (b < a)
        at_most zero b = inl (omega arith)
        at_most (suc a) zero = inr (omega arith)
        at_most (suc a) (suc b) = elim (at_most a b) [
          | inl low ↦ inl (omega (arith, low))
          | inr high ↦ inr (omega (arith, high))
        ]

        message_front : (text before last later : List ℕ) → length text ≤ length before → before ++ last ≡ text ++ later → SpellsRequest place m text
            → end ≡ place + length text → BeginsWithRequest place before m end
        message_front text before last later within same spells ends = record {
          text = text;
          rest = drop (length text) before;
          whole = sym (take-append-drop (length text) before)
              ∙ ap (λ (l : List ℕ). l ++ drop (length text) before)
              (sym (take-append-le (length text) before last within) ∙ ap (take (length text)) same ∙ take-append_seam text later);
          end = ends;
          spells = spells;
        }

        by_test : (b : Bool) → cond b interim (message m end) ≡ more → ⊥
        by_test true e = cc
        by_test false e = cc

        not_more : (text : List ℕ) → BeginsWithRequest place lazy.before m end → next_of (fed_at place lazy.before told) ≡ more → ⊥
        not_more text begun needed = by_test (awaits m && not told) (sym (laws.given (fed_at place lazy.before told) m end refl begun) ∙ needed)

-- ---- how much is read on

-- the law of what isn't whole
abbrev pub ShortLaw : Type 0
ShortLaw = (fed : Fed) → next_of fed ≡ more → length fed.bytes < max_message

-- a reader that waits was fed less than a message more than at first
pub waits_short : ShortLaw → (place : ℕ) (bytes : List ℕ) (told : Bool) (first r r' : RequestReader) (source : Course (List ℕ)) → Stands first (fed_at place bytes told)
    → (so_far : ReadSoFar place bytes told r source) → step_of (next_of (fed_at place (bytes ++ so_far.read) told)) ≡ Ok More
    → Stands r' (fed_after (fed_at place (bytes ++ so_far.read) told) (next_of (fed_at place (bytes ++ so_far.read) told)))
    → fed_count r' < fed_count first + max_message
waits_short law place bytes told first r r' source stands so_far is now =
    let due = waits place (bytes ++ so_far.read) told r' is now in
    let short : length (bytes ++ so_far.read) < max_message = law (fed_at place (bytes ++ so_far.read) told) due.0 in
    let before : fed_count first ≡ place + length bytes = count_of first (fed_at place bytes told) stands in
    let after : fed_count r' ≡ place + length (bytes ++ so_far.read) = count_of r' (fed_at place (bytes ++ so_far.read) told) due.1 in
    omega (arith, short, before, after)

-- a piece is counted
pub piece_counted : (place : ℕ) (bytes : List ℕ) (told : Bool) (r r' : RequestReader) (piece : List ℕ) → Stands r (fed_at place bytes told)
    → Stands r' (fed_with (fed_at place bytes told) piece) → fed_count r' ≡ fed_count r + length piece
piece_counted place bytes told r r' piece before after =
    let a : fed_count r ≡ place + length bytes = count_of r (fed_at place bytes told) before in
    let b : fed_count r' ≡ place + length (bytes ++ piece) = count_of r' (fed_at place (bytes ++ piece) told) after in
    omega (arith, a, b, length-append bytes piece)

-- what was read, and then the end of the input
pub came_end : (place : ℕ) (bytes : List ℕ) (told : Bool) (r : RequestReader) (source : Course (List ℕ)) (read : List ℕ) (result : Result (Unit {0}) WireFault) (came : Next)
    → Consumes source.old source.new read → IsReadLazily place told bytes read → next_of (fed_at place (bytes ++ read) told) ≡ more → IsAtEnd source.new
    → finish_of (fed_at place (bytes ++ read) told) ≡ result → came ≡ ending result → ReadsOn place bytes told r source (Some came)
came_end place bytes told r source read (Ok nothing) came consumed lazy is end finish same = record {
  read = read;
  consumed = consumed;
  comes = subst (λ (n : Next). ComesOn place (bytes ++ read) told r source (Some n)) (sym same) (is, end, finish);
  lazy = lazy;
}
came_end place bytes told r source read (Err f) came consumed lazy is end finish same = record {
  read = read;
  consumed = consumed;
  comes = subst (λ (n : Next). ComesOn place (bytes ++ read) told r source (Some n)) (sym same) (inr (is, end, finish));
  lazy = lazy;
}

-- reading on comes nearer to its end
pub nearer : (first before mid after : ℕ) (piece : List ℕ) → mid ≡ before → mid < first + max_message → after ≡ mid + length piece → 0 < length piece
    → first + most_read - after < first + most_read - before
nearer first before mid after piece same short counted some = omega (arith, same, short, counted, some)

-- where nothing more was read
pub consumed_still : (a b c : Option (List ℕ)) (read piece : List ℕ) → Consumes a b read → Consumes b c piece → piece ≡ [] → Consumes a c read
consumed_still a b c read piece first second none =
    subst (Consumes a c) (ap (λ (l : List ℕ). read ++ l) none ∙ append-nil read) (Consumes-trans a b c read piece first second)

pub laws_of : ((place : ℕ) (bytes after : List ℕ) → next_of (fed_at place bytes false) ≡ interim → next_of (fed_at place (bytes ++ after) false) ≡ interim)
    → ((place : ℕ) (bytes : List ℕ) → (next_of (fed_at place bytes false) ≡ interim) ⊎ (next_of (fed_at place bytes true) ≡ next_of (fed_at place bytes false)))
    → ((place : ℕ) (bytes : List ℕ) (told : Bool) → next_of (fed_at place bytes false) ≡ interim → finish_of (fed_at place bytes told) ≡ Err (fault_at Truncated (place + length bytes)))
    → ((place : ℕ) (bytes : List ℕ) (m : RequestMessage) (next : ℕ) → (message_at place bytes ≡ Some (m, next)) ↔ BeginsWithRequest place bytes m next)
    → ((fed : Fed) (m : RequestMessage) (next : ℕ) → fed.fault ≡ None → BeginsWithRequest fed.place fed.bytes m next
    → next_of fed ≡ cond (awaits m && not fed.told) interim (message m next)) → Laws
laws_of stays told begun one spelled = record {
  stays = stays;
  told = told;
  cut = λ place bytes due whole. let cut = sym (begun place bytes true due) ∙ whole in cc;
  begins = λ place bytes m next. (one place bytes m next).0;
  given = spelled;
}
