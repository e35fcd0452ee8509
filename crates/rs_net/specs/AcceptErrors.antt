-- What the errors of accept(2) say of a listener, by their numbers in errno.h of Linux.
use Rattle.std.specs.Prelude.{ℕ, ℤ, pos, int_lt, unsigned_abs, List, [], ◌∷◌, Bool, ◌==◌, Option, None, Some, if◌then◌else◌}
use Rattle.std.specs.List.{list_any}
use Rattle.rs_net.specs.declared.accept_error.AcceptError.{AcceptError}
use Rattle.rs_net.specs.declared.accept_error.AcceptError.TheVariants.{Passing, Exhausted, Fatal}

-- about one connection, or a signal: EPERM (a firewall forbids it), EINTR, ENONET, EPROTO, ENOPROTOOPT, EOPNOTSUPP,
-- ENETDOWN, ENETUNREACH, ECONNABORTED, ECONNRESET, ETIMEDOUT, EHOSTDOWN, EHOSTUNREACH
abbrev pub passing_errors : List ℕ
passing_errors = 1 ∷ 4 ∷ 64 ∷ 71 ∷ 92 ∷ 95 ∷ 100 ∷ 101 ∷ 103 ∷ 104 ∷ 110 ∷ 112 ∷ 113 ∷ []

-- for the present: EAGAIN, ENOMEM, ENFILE, EMFILE, ENOBUFS
abbrev pub exhaustion_errors : List ℕ
exhaustion_errors = 11 ∷ 12 ∷ 23 ∷ 24 ∷ 105 ∷ []

abbrev pub is_among : List ℕ → ℕ → Bool
is_among numbers number = list_any (λ one. one == number) numbers

abbrev pub meaning_in : ℕ → AcceptError
meaning_in number = if is_among passing_errors number then Passing else if is_among exhaustion_errors number then Exhausted else Fatal

-- of an error that may have no number
abbrev pub meaning_of : Option ℤ → AcceptError
meaning_of None = Passing
meaning_of (Some number) = if int_lt number (pos 0) then Fatal else meaning_in (unsigned_abs number)
