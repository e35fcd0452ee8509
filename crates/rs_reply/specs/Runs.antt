-- A step that is taken again and again.
use Rattle.std.specs.Prelude.{ℕ, zero, suc}
use Rattle.std.specs.declared.ops.ControlFlow.{ControlFlow}
use Rattle.std.specs.declared.ops.ControlFlow.TheVariants.{Continue, Break}

-- what comes of a step, which breaks with an answer or continues from a state, where go says what
-- comes of the state
abbrev pub after_flow : {A S : Type 0} → (S → A) → ControlFlow A S → A
after_flow go (Break a) = a
after_flow go (Continue s) = go s

-- at most fuel steps; where they don't suffice, none
abbrev pub run : {A S : Type 0} → (S → ControlFlow A S) → A → ℕ → S → A
run step none zero s = none
run step none (suc fuel) s = after_flow (run step none fuel) (step s)
