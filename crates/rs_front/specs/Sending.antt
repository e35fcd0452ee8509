-- What sending a reply leaves in the sink.
use Rattle.std.specs.Prelude.{◌≡◌, ℕ, ◌⊎◌, List}
use Rattle.rs_face.specs.Courses.{Course, HasFailed, IsWritten, IsPartWritten}
use Rattle.rs_face.specs.declared.sink.SinkFault.{SinkFault}
use Rattle.rs_face.specs.declared.sink.SinkFault.TheVariants as fault
use Rattle.rs_front.specs.declared.serve.End.{End}
use Rattle.rs_front.specs.declared.serve.End.TheVariants.{WriteFault, NoMemory}

-- how a connection ends whose reply couldn't be written
abbrev pub end_of : SinkFault → End
end_of fault.Failed = WriteFault
end_of fault.NoMemory = NoMemory

-- how a connection ends whose reply couldn't be written: the sink counted that it failed, or that it wanted memory
abbrev pub IsCutOff : Course (List ℕ) → Course (List ℕ) → End → Type 0
IsCutOff sink wants said = ((said ≡ WriteFault) × HasFailed sink) ⊎ ((said ≡ NoMemory) × HasFailed wants)

-- the last reply was written, or a front of it
abbrev pub EndsWith : Course (List ℕ) → Course (List ℕ) → List ℕ → End → End → Type 0
EndsWith sink wants bytes meant said =
    (IsWritten sink bytes × (said ≡ meant)) ⊎ (IsPartWritten sink bytes × IsCutOff sink wants said)
