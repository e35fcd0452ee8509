-- The root alone is there.
use Rattle.std.proofs.Common.{◌≡◌, ◌≢◌, ℕ, Option, Some, None, get_or, sym, ap, ◌∙◌}
use Rattle.slab.specs.Slab.{get}
use Rattle.rs_chain.specs.declared.node.Node.{Node}
use Rattle.rs_chain.proofs.NewLemmas.{new_stands}
use Rattle.rs_chain.proofs.chain_tree.ChainTreeTree.new.Goals as goal

pub returns : goal.returns
returns c =
    let s = c.new-nodes.result in
    let t = c.insert.new.self in
    let root : ℕ = c.in_ok-root.root in
    let others : (k : ℕ) → k ≢ root → get t k ≡ None = λ k other.
    c.in_ok-root.ensures.updates.others k other ∙ ap (λ slots. get_or slots k None) c.new-nodes.ensures.empty in
    record { empty = new_stands t root c.in_ok-root_node.field-0 c.in_ok-root.ensures.updates.changed others c.in_ok-root_node.ensures.empty }
