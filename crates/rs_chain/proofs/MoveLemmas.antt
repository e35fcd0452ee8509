-- Functions of which one value moved, one after another.
use Rattle.std.proofs.Common.{◌≡◌, ℕ, sym, ap, ◌∙◌, subst}
use Rattle.rs_chain.specs.Nodes.{ChangesAt, Stays}

pub keeps_keeps : {X : Type 0} (f g h : ℕ → X) → Stays f g → Stays g h → Stays f h
keeps_keeps f g h one two j = two j ∙ one j

pub moves_keeps : {X : Type 0} (f g h : ℕ → X) (k : ℕ) (v : X) → ChangesAt f g k v → Stays g h → ChangesAt f h k v
moves_keeps f g h k v one two = record { here = two k ∙ one.here; others = λ j other. two j ∙ one.others j other }

pub keeps_moves : {X : Type 0} (f g h : ℕ → X) (k : ℕ) (v : X) → Stays f g → ChangesAt g h k v → ChangesAt f h k v
keeps_moves f g h k v one two = record { here = two.here; others = λ j other. two.others j other ∙ one j }

-- the same key and value by other names
pub moves_at : {X : Type 0} (f g : ℕ → X) (k l : ℕ) (v w : X) → k ≡ l → v ≡ w → ChangesAt f g k v → ChangesAt f g l w
moves_at f g k l v w key value moved = subst (λ j. ChangesAt f g j w) key (subst (λ x. ChangesAt f g k x) value moved)
