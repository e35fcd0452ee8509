-- A version is the number of the node where the way ends.
use Rattle.std.proofs.Common.{◌≡◌, ℕ, Bool, true, false, not, ◌||◌, ◌&&◌, Option, None, sym, ap, ◌∙◌}
use Rattle.std.specs.Option.{option_map_or}
use Rattle.rs_path.specs.Paths.{Path, is_path, is_nil}
use Rattle.rs_chain.specs.declared.node.Node.{Node}
use Rattle.rs_chain.specs.Nodes.{number, node_number}
use Rattle.rs_chain.proofs.ShownLemmas.{path_placed}
use Rattle.rs_chain.proofs.looks.version_at.Goals as goal

pub returns-in-None : goal.returns-in-None
returns-in-None c = record {
  version = λ w shows.
      ap (λ (o : Option ℕ). option_map_or (node_number c.args.nodes.now) o 0) c.in-None.ensures.key
      ∙ sym (shows.versions c.args.path.now (path_placed c.args.path.now c.in-None.ensures.path));
}

pub returns-in-Some : goal.returns-in-Some
returns-in-Some c = record {
  version = λ w shows.
      c.number.ensures.number ∙ sym (ap (λ o. option_map_or number o 0) c.index.ensures)
      ∙ ap (λ (o : Option ℕ). option_map_or (node_number c.args.nodes.now) o 0) c.in-Some.ensures.key
      ∙ sym (shows.versions c.args.path.now (path_placed c.args.path.now c.in-Some.ensures.path));
}
