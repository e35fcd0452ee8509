use Rattle.std.proofs.Common.{List, ◌++◌, sym, ap, ◌∙◌, append_assoc}
use Rattle.std.specs.List.{flat_map}
use Rattle.rs_path.specs.declared.child.Child.{Child}
use Rattle.rs_client.specs.Texts.{child_line}
use Rattle.rs_client.proofs.TextLemmas.{nothing_more}
use Rattle.rs_client.proofs.texts.listing_text.Goals as goal

pub loop-child-init : goal.loop-child-init
loop-child-init c =
    ap (λ t. t ++ flat_map child_line c.into_iter-child-iterator.result) c.new-text.ensures.items
    ∙ ap (λ (l : List Child). flat_map child_line l) c.into_iter-child-iterator.ensures.into_iter_gives.0

pub loop-child-preserved : goal.loop-child-preserved
loop-child-preserved c =
    let text = c.loop-child.text.items in
    let line = child_line c.in-Some.child.now in
    let rest = flat_map child_line c.next.new.self in
    ap (λ t. t ++ rest) c.in_ok-put_child.ensures.ok ∙ (append_assoc text line rest
    ∙ (sym (ap (λ (l : List Child). text ++ flat_map child_line l) c.in-Some.ensures.steps) ∙ c.loop-child.invariant))

pub returns : goal.returns
returns c = record {
  text = c.of.ensures.bytes ∙ (nothing_more c.loop-child.text.items
      ∙ (sym (ap (λ (l : List Child). c.loop-child.text.items ++ flat_map child_line l) c.in-None.ensures.steps.0) ∙ c.loop-child.invariant));
}
