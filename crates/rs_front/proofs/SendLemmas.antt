-- Replies that were sent, and how a connection ends where they weren't.
use Rattle.std.proofs.Common.{ℕ, inl, inr, List, ◌++◌, Option, Result, Ok, Err, refl}
use Rattle.std.specs.Io.KnownBytes.{Appends}
use Rattle.rs_face.specs.Causes.{HasCause}
use Rattle.rs_face.specs.Courses.{Course, Writes}
use Rattle.rs_face.specs.declared.sink.SinkFault.{SinkFault}
use Rattle.rs_face.specs.declared.sink.SinkFault.TheVariants as fault
use Rattle.rs_face.proofs.Cited.{Appends-trans, AppendsFront-after}
use Rattle.rs_front.specs.Sending.{IsCutOff, end_of}

-- what the sink counted of a reply that couldn't be written
pub cut_off : (sink wants : Course (List ℕ)) (why : SinkFault) → {A : Type 0} → HasCause {A = A} sink.before sink.now fault.Failed (Err why)
    → HasCause {A = A} wants.before wants.now fault.NoMemory (Err why) → IsCutOff sink wants (end_of why)
cut_off sink wants fault.Failed cause want = inl (refl, cause.failed refl)
cut_off sink wants fault.NoMemory cause want = inr (refl, want.failed refl)

-- one part was written, and then another, or a front of it
pub writes_after : (old mid new : Option (List ℕ)) (n k i j : ℕ) (one two : List ℕ) → {A E : Type 0} (r : Result A E) → Appends old mid one
    → Writes (record { old = mid; new = new; before = n; now = k }) two r → Writes (record { old = old; new = new; before = i; now = j }) (one ++ two) r
writes_after old mid new n k i j one two (Ok x) wrote writes = Appends-trans old mid new one two wrote writes
writes_after old mid new n k i j one two (Err e) wrote writes = AppendsFront-after old mid new one two wrote writes
