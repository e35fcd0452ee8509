-- Bytes that are written in two steps.
use Rattle.std.proofs.Common.{ℕ, List, ◌++◌, Option, Result, Ok, Err}
use Rattle.std.specs.Io.KnownBytes.{Appends}
use Rattle.rs_face.specs.Courses.{Writes}
use Rattle.rs_face.proofs.Cited.{Appends-trans, AppendsFront-after}

pub writes_behind : {A E : Type 0} (old mid new : Option (List ℕ)) (text more : List ℕ) (faults faults' later later' : ℕ) (r : Result A E) → Appends old mid text
    → Writes (record { old = mid; new = new; before = later; now = later' }) more r
    → Writes (record { old = old; new = new; before = faults; now = faults' }) (text ++ more) r
writes_behind old mid new text more faults faults' later later' (Ok x) wrote writes = Appends-trans old mid new text more wrote writes
writes_behind old mid new text more faults faults' later later' (Err e) wrote writes = AppendsFront-after old mid new text more wrote writes
