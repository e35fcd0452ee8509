-- Bytes that are held back, and handed on.
use Rattle.std.proofs.Common.{◌≡◌, ℕ, ◌+◌, List, [], ◌++◌, Option, None, Some, is_some, length, take, drop, refl, sym, ap, ◌∙◌, append-nil, append_assoc, take-append-drop, ◌≤◌, subst, drop_of_length-le}
use Rattle.std.proofs.lemmas.List.{drop-drop}
use Rattle.std.specs.Io.KnownBytes.{Keeps, Appends, append_known}
use Rattle.rs_face.specs.Told.{StaysTold}

-- a front of what is held was handed on: what is told is as it was
pub handed_on : (old new : Option (List ℕ)) (held : List ℕ) (count : ℕ) → Appends old new (take count held)
    → Keeps (append_known old held) (append_known new (drop count held))
handed_on None new held count wrote = tt
handed_on (Some xs) None held count wrote = absurd wrote
handed_on (Some xs) (Some ys) held count wrote =
    ap (λ (l : List ℕ). l ++ drop count held) wrote ∙ append_assoc xs (take count held) (drop count held)
    ∙ ap (λ (l : List ℕ). xs ++ l) (take-append-drop count held)

-- the same, by places
pub handed_from : (old new : Option (List ℕ)) (bytes : List ℕ) (sent count : ℕ) → Appends old new (take count (drop sent bytes))
    → Keeps (append_known old (drop sent bytes)) (append_known new (drop (sent + count) bytes))
handed_from old new bytes sent count wrote = rw (← drop-drop count sent bytes) (handed_on old new (drop sent bytes) count wrote)

-- a sink that goes on to tell tells with what is held too
pub told_with : (old new : Option (List ℕ)) (a b : List ℕ) → StaysTold old new → StaysTold (append_known old a) (append_known new b)
told_with None None a b told = refl
told_with None (Some y) a b told = told
told_with (Some x) None a b told = told
told_with (Some x) (Some y) a b told = refl

-- a piece that is held was written
pub held_more : (told : Option (List ℕ)) (held piece : List ℕ) → Appends (append_known told held) (append_known told (held ++ piece)) piece
held_more None held piece = tt
held_more (Some xs) held piece = sym (append_assoc xs held piece)

-- where nothing is held, what is told is what the sink below tells
pub none_held : (told : Option (List ℕ)) → append_known told [] ≡ told
none_held None = refl
none_held (Some xs) = ap Some (append-nil xs)

-- where all was handed on, nothing is held
pub all_sent : (first told : Option (List ℕ)) (bytes none : List ℕ) (sent : ℕ) → Keeps first (append_known told (drop sent bytes)) → length bytes ≤ sent → none ≡ []
    → Keeps first (append_known told none)
all_sent first told bytes none sent keeps all empty =
    subst (λ (l : List ℕ). Keeps first (append_known told l)) (drop_of_length-le bytes all ∙ sym empty) keeps
