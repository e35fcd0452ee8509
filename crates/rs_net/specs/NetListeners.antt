-- What is seen of a listener over a socket.
use Rattle.std.specs.Prelude.{ℕ, Bool, true, false, nat_le, Option, None, Some, Result, Ok, Err}

-- how many connections it gave, how many it may give where that is bounded, how often it answered that none will come,
-- and how many calls failed
pub record NetState : Type 0 where
  pub given : ℕ
  pub most : Option ℕ
  pub ends : ℕ
  pub faults : ℕ

-- so many were given, and so many may be
abbrev pub has_reached : ℕ → Option ℕ → Bool
has_reached given None = false
has_reached given (Some most) = nat_le most given

-- it gave as many as it may
abbrev pub gave_all : NetState → Bool
gave_all s = has_reached s.given s.most

-- the answer is that none will come
abbrev pub is_end : {C E : Type 0} → Result (Option C) E → Bool
is_end (Ok None) = true
is_end (Ok (Some connection)) = false
is_end (Err fault) = false
