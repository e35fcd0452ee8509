use Rattle.std.proofs.Common.{◌≡◌, IsTrue, All, List, [], ◌∷◌, ◌++◌, map, append_assoc, sym, ap, ◌∙◌, subst}
use Rattle.std.specs.List.Sorted.{IsStrictlySortedBy}
use Rattle.std.proofs.lemmas.List.{map-append}
use Rattle.rs_path.specs.declared.child.Child.{Child}
use Rattle.rs_path.specs.declared.entry.Entry.{Entry}
use Rattle.rs_path.specs.Children.{child_cmp}
use Rattle.rs_path.specs.Items.{comes_before}
use Rattle.rs_rules.specs.Listings.{item_of}
use Rattle.rs_plain.specs.PlainTrees.{contents_in}
use Rattle.rs_plain.proofs.ItemLemmas.{Named, items_above}
use Rattle.rs_plain.proofs.listing.items_in.Goals as goal

-- src/listing.rt:30:9
pub push-requires-clause-above : goal.push-requires-clause-above
push-requires-clause-above c =
    let w = contents_in c.args.docs.now c.args.writes.now in
    let folder = c.args.folder.now in
    let done = c.loop-child.invariant.0 in
    let x = c.in-Some.child.now in
    let rest = c.next.new.self in
    let from : c.into_iter-child-iterator.result ≡ c.in_ok-children.children.keys =
    c.into_iter-child-iterator.ensures.into_iter_gives ∙ c.iter-child-items.ensures.rest in
    let split : c.in_ok-children.children.keys ≡ done ++ x ∷ rest =
    sym from ∙ c.loop-child.invariant.1 ∙ ap (λ (l : List Child). done ++ l) c.in-Some.ensures.steps in
    let above = items_above w folder done rest x
    (subst (IsStrictlySortedBy child_cmp) split c.iter-child-items.ensures.ordered)
    (subst (All Named) split c.in_ok-children.ensures.names) in
    subst (λ (item : Entry). All (λ (e : Entry). IsTrue (comes_before e item)) c.loop-child.items) (sym c.in_ok-item_of.ensures.item)
    (subst (λ (items : List Entry). All (λ (e : Entry). IsTrue (comes_before e (item_of w folder x))) items) (sym c.loop-child.invariant.2) above)

-- src/listing.rt:29:5
pub loop-child-preserved : goal.loop-child-preserved
loop-child-preserved c =
    let make = item_of (contents_in c.args.docs.now c.args.writes.now) c.args.folder.now in
    let done = c.loop-child.invariant.0 in
    let x = c.in-Some.child.now in (
      done ++ x ∷ [],
      c.loop-child.invariant.1 ∙ ap (λ (l : List Child). done ++ l) c.in-Some.ensures.steps ∙ sym (append_assoc done (x ∷ []) c.next.new.self),
      c.in_ok-push.ensures.ok ∙ ap (λ (l : List Entry). l ++ c.in_ok-item_of.field-0 ∷ []) c.loop-child.invariant.2
          ∙ ap (λ (e : Entry). map make done ++ e ∷ []) c.in_ok-item_of.ensures.item ∙ sym (map-append make done (x ∷ [])),
    )
