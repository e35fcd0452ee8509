-- The document's node first, and then a folder's before it.
use Rattle.std.proofs.Common.{◌≡◌, ◌<◌, ◌≤◌, ℕ, ◌+◌, ◌-◌, List, [], ◌∷◌, ◌++◌, length, drop, get_or, arith, sym, ap, ◌∙◌, subst}
use Rattle.std.proofs.lemmas.List.{get_or_read}
use Rattle.rs_chain.specs.declared.node.Node.{Node}
use Rattle.rs_chain.specs.Rooms.{AreFresh}
use Rattle.rs_chain.proofs.GrowLemmas.{fresh_first, fresh_more}
use Rattle.rs_chain.proofs.room.fresh_nodes.Goals as goal

pub loop-place-init : goal.loop-place-init
loop-place-init c =
    let names = c.args.names.now in
    let place : ℕ = length names - 1 in
    let within : place < length names = omega arith in
    record {
      above = omega arith;
      within = within;
      fresh = fresh_first names place c.args.doc c.push.new.self.items c.document_node.result c.in_ok-copy.field-0 within (omega arith)
          (c.in_ok-push.ensures.items ∙ ap (λ (xs : List Node). xs ++ c.document_node.result ∷ []) c.new-fresh.ensures.items)
          (c.in_ok-copy.ensures.same ∙ get_or_read names place c.index-names-place.result within c.index-names-place.is []) c.document_node.ensures.fresh;
    }

pub loop-place-preserved : goal.loop-place-preserved
loop-place-preserved c =
    let names = c.args.names.now in
    let place : ℕ = c.loop-place.place - 1 in
    let before : place + 1 ≡ c.loop-place.place = omega arith in
    let further : place + 1 < length names = omega arith in
    let within : place < length names = omega arith in
    record {
      above = omega arith;
      within = within;
      fresh = fresh_more names place c.args.doc c.loop-place.fresh.items c.push-in-loop-place.new.self.items c.in_ok-folder_node.field-0 c.in_ok-copy-2.field-0 further c.in_ok-push-2.ensures.items
          (c.in_ok-copy-2.ensures.same ∙ get_or_read names place c.index-names-place-in-loop-place.result within c.index-names-place-in-loop-place.is []) c.in_ok-folder_node.ensures.fresh
          (subst (λ (at : ℕ). AreFresh (drop at names) c.args.doc c.loop-place.fresh.items) (sym before) c.loop-place.invariant.fresh);
    }
