-- How often a field is there.
use Rattle.std.specs.Prelude.{◌≡◌, ℕ, ◌≤◌, List, [], ◌∷◌, length}
use Rattle.rs_talk.specs.declared.shown.Times.{Times}
use Rattle.rs_talk.specs.declared.shown.Times.TheVariants.{Never, Once, Often}

-- a field that is there so often has these values
abbrev pub Counted : Times → List (List ℕ) → Type 0
Counted Never values = values ≡ []
Counted (Once value) values = values ≡ value.now ∷ []
Counted Often values = 2 ≤ length values
