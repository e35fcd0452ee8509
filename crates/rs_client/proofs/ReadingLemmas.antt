-- A source read up to its end.
use Rattle.std.proofs.Common.{◌≡◌, ℕ, ◌+◌, ◌<◌, ◌≤◌, List, [], ◌∷◌, ◌++◌, length, Option, Some, None, Result, Ok, Err, IfSome, refl, sym, ap, ◌∙◌, subst, arith, append-nil, length-append}
use Rattle.std.specs.Io.KnownBytes.{Consumes, IsAtEnd}
use Rattle.rs_face.specs.Courses.{Course, course, HasFailed, IsLater}
use Rattle.rs_face.proofs.Cited.{Rose-later, Consumes-nil, Consumes-trans, Consumes-told}
use Rattle.rs_client.specs.declared.client_fault.ClientFault.{ClientFault}
use Rattle.rs_client.specs.declared.client_fault.ClientFault.TheVariants.{BadRow, Unlawful, Connected, NotConnected, SourceFailed, TooLong, OutOfScope, Clash, NotThere, NoConflict, JournalFull, KeeperFailed, NoMemory}
use Rattle.rs_client.specs.declared.source_body.Filled.{Filled}
use Rattle.rs_client.specs.declared.source_body.Filled.TheVariants.{More, End}
use Rattle.rs_client.specs.Putting.{IsRead}
use Rattle.rs_client.specs.Reading.{IsLonger, IsEnded, IsTooMuch, FillsBy, FillsBody, HasRead, ReadsBy, ReadsBody}

pub end_unless : (f : Filled) → (f ≡ More → ⊥) → f ≡ End
end_unless More not = absurd (not refl)
end_unless End not = refl

-- what was consumed is no longer than what was left
long_left : (n : ℕ) (old new : Option (List ℕ)) (bytes : List ℕ) → Consumes old new bytes → n < length bytes → IfSome old (λ left. n < length left)
long_left n None new bytes consumed long = tt
long_left n (Some left) new bytes consumed long =
    let told = Consumes-told left new bytes consumed in
    let sum = ap length told.2 ∙ length-append bytes told.0 in
    omega (arith, long, sum)

-- all was consumed
all_left : (old new : Option (List ℕ)) (bytes : List ℕ) → Consumes old new bytes → IsAtEnd new → IfSome old (λ left. left ≡ bytes)
all_left None new bytes consumed ended = tt
all_left (Some left) None bytes consumed ended = absurd consumed
all_left (Some left) (Some rest) bytes consumed ended = consumed ∙ (ap (λ r. bytes ++ r) ended ∙ append-nil bytes)

none_left : (new : Option (List ℕ)) → IsAtEnd new → IfSome new (λ left. left ≡ [])
none_left None ended = tt
none_left (Some rest) ended = ended

module _ {S : Type 0} (told : S → Option (List ℕ)) (faults : S → ℕ) (first mid last : S) where
  pub reads_none : HasRead [] (course told faults first first)
  reads_none = record { consumed = Consumes-nil (told first); short = omega arith; later = omega arith }

  pub reads_more : (body new : List ℕ) → HasRead body (course told faults first mid) → FillsBody body new (course told faults mid last) (Ok More)
      → HasRead new (course told faults first last)
  reads_more body new read more =
      let before = read.later in
      let later = more.later in
      record {
        consumed = subst (Consumes (told first) (told last)) (sym more.fills.behind)
            (Consumes-trans (told first) (told mid) (told last) body more.fills.piece read.consumed more.fills.consumed);
        short = more.fills.short;
        later = omega (arith, before, later);
      }

  pub reads_whole : (body new : List ℕ) → HasRead body (course told faults first mid) → FillsBody body new (course told faults mid last) (Ok End)
      → ReadsBody (course told faults first last) (Ok new)
  reads_whole body new read ended =
      let before = read.later in
      let later = ended.later in
      let consumed = subst (Consumes (told first) (told last)) (append-nil body ∙ sym ended.fills.same)
      (Consumes-trans (told first) (told mid) (told last) body [] read.consumed ended.fills.consumed) in
      record {
        reads = record {
          all = all_left (told first) (told last) new consumed ended.fills.ended;
          ended = none_left (told last) ended.fills.ended;
          short = let short = read.short in let same = ap length ended.fills.same in omega (arith, short, same);
        };
        later = omega (arith, before, later);
      }

  reads_fault : (body new : List ℕ) (fault : ClientFault) → HasRead body (course told faults first mid) → FillsBy body new (course told faults mid last) (Err fault)
      → ReadsBy (course told faults first last) (Err fault)
  reads_fault body new SourceFailed read fills = Rose-later (faults first) (faults mid) (faults last) read.later fills
  reads_fault body new TooLong read fills =
      let long = fills.long in
      let sum = length-append body fills.piece in
      long_left 67108864 (told first) (told last) (body ++ fills.piece)
      (Consumes-trans (told first) (told mid) (told last) body fills.piece read.consumed fills.consumed) (omega (arith, long, sum))
  reads_fault body new NoMemory read fills = tt
  reads_fault body new (BadRow index place) read fills = absurd fills
  reads_fault body new (Unlawful index) read fills = absurd fills
  reads_fault body new Connected read fills = absurd fills
  reads_fault body new NotConnected read fills = absurd fills
  reads_fault body new OutOfScope read fills = absurd fills
  reads_fault body new (Clash path) read fills = absurd fills
  reads_fault body new NotThere read fills = absurd fills
  reads_fault body new (NoConflict n) read fills = absurd fills
  reads_fault body new JournalFull read fills = absurd fills
  reads_fault body new KeeperFailed read fills = absurd fills

  pub reads_not : (body new : List ℕ) (fault : ClientFault) (result : Result (List ℕ) ClientFault) → result ≡ Err fault → HasRead body (course told faults first mid)
      → FillsBody body new (course told faults mid last) (Err fault) → ReadsBody (course told faults first last) result
  reads_not body new fault result is read fills =
      let before = read.later in
      let later = fills.later in
      subst (ReadsBody (course told faults first last)) (sym is)
      (record { reads = reads_fault body new fault read fills.fills; later = omega (arith, before, later) })
