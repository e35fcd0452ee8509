-- The kids ascend by their keys, and so do their items.
use Rattle.std.proofs.Common.{◌≡◌, ◌+◌, ◌<◌, ℕ, List, [], ◌∷◌, ◌++◌, map, take, length, get_or, arith, sym, ap, ◌∙◌, subst, IsTrue, All}
use Rattle.std.specs.List.{AllByRecursion}
use Rattle.std.specs.Option.{option_map_or}
use Rattle.std.proofs.lemmas.List.{take_more, map-append}
use Rattle.slab.specs.Slab.{ContainsKey}
use Rattle.rs_path.specs.declared.entry.Entry.{Entry}
use Rattle.rs_path.specs.Items.{comes_before, is_item}
use Rattle.rs_rules.specs.Laws.{is_sorted}
use Rattle.rs_chain.specs.declared.node.Node.{Node}
use Rattle.rs_chain.specs.Nodes.{node_child, node_kids}
use Rattle.rs_chain.specs.NodeItems.{node_item}
use Rattle.rs_chain.proofs.KidLemmas.{NamedAt, kid_live, above_all, named_more, node_plain}
use Rattle.rs_chain.proofs.listing.items_of.Goals as goal

pub item_of-requires : goal.item_of-requires
item_of-requires c =
    let s = c.args.nodes.now in
    let kids : List ℕ = c.as_slice-kids.result.now in
    let kids_is : node_kids s c.args.folder ≡ kids = ap (λ o. option_map_or (λ (x : Node). x.kids.items) o []) c.index.ensures ∙ sym c.as_slice-kids.ensures.value in
    record { there = kid_live s c.args.root c.args.folder kids c.loop-key.key-index c.requires.listed kids_is c.loop-key-test.true }

pub push-requires : goal.push-requires
push-requires c =
    let s = c.args.nodes.now in
    let kids : List ℕ = c.as_slice-kids.result.now in
    let i : ℕ = c.loop-key.key-index in
    let kids_is : node_kids s c.args.folder ≡ kids = ap (λ o. option_map_or (λ (x : Node). x.kids.items) o []) c.index.ensures ∙ sym c.as_slice-kids.ensures.value in
    let live : ContainsKey s (get_or kids i 0) = kid_live s c.args.root c.args.folder kids i c.requires.listed kids_is c.loop-key-test.true in
    let item_is = c.in_ok-item_of.ensures.item in
    record {
      above = subst (λ (item : Entry). All (λ (e : Entry). IsTrue (comes_before e item)) c.loop-key.items) (sym item_is)
          (subst (λ (items : List Entry). All (λ (e : Entry). IsTrue (comes_before e (node_item s (get_or kids i 0)))) items) (sym c.loop-key.invariant.items)
          (above_all s kids i (ap (λ l. is_sorted (map (node_child s) l)) (sym kids_is) ∙ c.requires.listed.sorted c.args.folder) c.loop-key-test.true c.loop-key.invariant.named c.item_of.ensures.name));
      plain = subst (λ (item : Entry). IsTrue (is_item item)) (sym item_is) (node_plain s c.args.root (get_or kids i 0) c.requires.listed live);
    }

pub loop-key-preserved : goal.loop-key-preserved
loop-key-preserved c =
    let s = c.args.nodes.now in
    let kids : List ℕ = c.as_slice-kids.result.now in
    let i : ℕ = c.loop-key.key-index in
    let more = take_more kids i 0 c.loop-key-test.true in
    record {
      items = c.in_ok-push.ensures.ok ∙ ap (λ (l : List Entry). l ++ c.in_ok-item_of.field-0 ∷ []) c.loop-key.invariant.items
          ∙ ap (λ (e : Entry). map (node_item s) (take i kids) ++ e ∷ []) c.in_ok-item_of.ensures.item
          ∙ sym (map-append (node_item s) (take i kids) (get_or kids i 0 ∷ [])) ∙ sym (ap (map (node_item s)) more);
      named = subst (AllByRecursion (NamedAt s)) (sym more) (named_more s (take i kids) (get_or kids i 0) c.loop-key.invariant.named c.item_of.ensures.name);
    }
