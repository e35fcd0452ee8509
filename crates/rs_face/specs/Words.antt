-- What is seen of an entropy in memory.
use Rattle.std.specs.Prelude.{ℕ, ◌==◌, Bool, List, not, ◌&&◌, length, if◌then◌else◌}
use Rattle.rs_face.specs.Calls.{Calls, fails_next, after_call, after_fault}

-- the words that are left, and the calls
pub record EntropyState : Type 0 where
  pub words : List ℕ
  pub calls : Calls

-- no word is left
abbrev pub is_used_up : EntropyState → Bool
is_used_up state = length state.words == 0

-- the calls after one more: a call that finds no word counts a fault, as one that is in the list does
abbrev pub calls_after_word : EntropyState → Calls
calls_after_word state =
    if is_used_up state && not (fails_next state.calls)
    then after_fault (after_call state.calls)
    else after_call state.calls
