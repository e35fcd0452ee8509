-- A run that has fuel enough goes on step by step.
use Rattle.std.proofs.Common.{◌≡◌, ℕ, zero, suc, ◌<◌, refl, ap, ◌∙◌, arith}
use Rattle.std.proofs.Common.{ControlFlow, Continue, Break}
use Rattle.rs_reply.specs.Runs.{after_flow, run}

module _ {A S : Type 0} (step : S → ControlFlow A S) (none : A) (size : S → ℕ) (good : S → Type 0)
    (less : (s t : S) → good s → step s ≡ Continue t → good t × (size t < size s)) where
  -- more fuel than the size changes nothing
  pub run_fuel : (f g : ℕ) (s : S) → good s → size s < f → size s < g → run step none f s ≡ run step none g s
  run_fuel zero g s ok below above = absurd (omega (arith, below))
  run_fuel (suc f) zero s ok below above = absurd (omega (arith, above))
  run_fuel (suc f) (suc g) s ok below above = by_step (run_fuel f g) (step s) refl
    where
      by_step : ((t : S) → good t → size t < f → size t < g → run step none f t ≡ run step none g t) → (t : ControlFlow A S) → step s ≡ t
          → after_flow (run step none f) t ≡ after_flow (run step none g) t
      by_step again (Break a) e = refl
      by_step again (Continue t) e = let next = less s t ok e in again t next.0 (omega (arith, next.1, below)) (omega (arith, next.1, above))

  -- a step that ends the run
  pub run_done : (f : ℕ) (s : S) (a : A) → step s ≡ Break a → run step none (suc f) s ≡ a
  run_done f s a e = ap (after_flow (run step none f)) e

  -- a step after which it goes on
  pub run_on : (f : ℕ) (s t : S) → good s → size s < suc f → step s ≡ Continue t → run step none (suc f) s ≡ run step none (suc f) t
  run_on f s t ok below e =
      let next = less s t ok e in
      ap (after_flow (run step none f)) e ∙ run_fuel f (suc f) t next.0 (omega (arith, next.1, below)) (omega (arith, next.1, below))
