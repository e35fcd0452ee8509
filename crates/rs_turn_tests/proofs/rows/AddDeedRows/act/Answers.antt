use Rattle.std.proofs.Common.{rules, ◌≡◌, ℕ, List, ◌++◌, [], ◌∷◌, inr, refl, sym, ap, ◌∙◌}
use Rattle.std.proofs.lemmas.List.{map-append}
use Rattle.rs_path.specs.declared.log_entry.LogEntry.{LogEntry}
use Rattle.rs_turn_tests.proofs.rows.AddDeedRows.act.Goals as goal

pub returns-in-Ok-clause-list : goal.returns-in-Ok-clause-list
returns-in-Ok-clause-list c h stood =
    let row = c.args.self.now.row in
    let pushed : c.push.new.self.items ≡ c.args.value.now.rows.items ++ row ∷ [] = search rules in
    inr (row, refl, (map-append (λ (e : LogEntry ℕ). e.what) h (record { who = c.args._who; what = row } ∷ []) ∙ (ap (λ (l : List ℕ). l ++ row ∷ []) stood ∙ sym pushed), tt))
