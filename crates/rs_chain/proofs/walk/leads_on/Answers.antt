-- A step has names behind it just where it isn't the last.
use Rattle.std.proofs.Common.{◌≡◌, ℕ, Bool, not, ◌+◌, ◌||◌, length, drop, nat_lt, sym, ap, ◌∙◌, List}
use Rattle.rs_path.specs.Paths.{is_nil}
use Rattle.rs_chain.proofs.StepLemmas.{more_left}
use Rattle.rs_chain.proofs.walk.leads_on.Goals as goal

pub returns-else-is_folder : goal.returns-else-is_folder
returns-else-is_folder c =
    let names = c.args.path.now.names in
    let depth : ℕ = c.args.depth + 1 in
    record {
      on = ap (λ (ns : List (List ℕ)). nat_lt depth (length ns)) c.names-names.ensures.names ∙ more_left names depth
          ∙ ap (λ (b : Bool). b || not (is_nil (drop depth names))) (sym c.if-is_folder.false ∙ c.is_folder.ensures.folder);
    }
