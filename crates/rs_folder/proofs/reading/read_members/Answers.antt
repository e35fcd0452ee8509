use Rattle.std.proofs.Common.{◌≡◌, Some, string_bytes, sym, ap, ◌∙◌, subst}
use Rattle.serde_json.specs.View.{view, members_view}
use Rattle.rs_folder.specs.FolderReadings.{entry_reading, items_from}
use Rattle.rs_folder.proofs.ItemLemmas.{entry_key-reading, is_item-reading}
use Rattle.rs_folder.proofs.ReadingLemmas.{Member, Ascend, above_items, Ascend-next, items_from-next}
use Rattle.rs_folder.proofs.reading.read_members.Goals as goal

pub push-requires-clause-above : goal.push-requires-clause-above
push-requires-clause-above c =
    let m : Member = (c.in-Some.key.now, c.in-Some.value.now) in
    let read : entry_reading (string_bytes m.0) (view m.1) ≡ Some c.in-Some-2.item =
    ap (λ key. entry_reading key (view c.in-Some.value.now)) (sym c.as_str.ensures.value) ∙ sym c.in_ok-item.ensures ∙ c.in-Some-2.is in
    let ascend = subst (Ascend c.loop-key.items) c.in-Some.ensures.steps c.loop-key.invariant.ascend in
    above_items c.loop-key.items m c.next.new.self c.in-Some-2.item ascend (entry_key-reading (string_bytes c.in-Some.key.now) (view c.in-Some.value.now) c.in-Some-2.item read)

pub push-requires-clause-plain : goal.push-requires-clause-plain
push-requires-clause-plain c =
    let read : entry_reading (string_bytes c.in-Some.key.now) (view c.in-Some.value.now) ≡ Some c.in-Some-2.item =
    ap (λ key. entry_reading key (view c.in-Some.value.now)) (sym c.as_str.ensures.value) ∙ sym c.in_ok-item.ensures ∙ c.in-Some-2.is in
    is_item-reading (string_bytes c.in-Some.key.now) (view c.in-Some.value.now) c.in-Some-2.item read

pub loop-key-preserved : goal.loop-key-preserved
loop-key-preserved c =
    let m : Member = (c.in-Some.key.now, c.in-Some.value.now) in
    let read : entry_reading (string_bytes m.0) (view m.1) ≡ Some c.in-Some-2.item =
    ap (λ key. entry_reading key (view c.in-Some.value.now)) (sym c.as_str.ensures.value) ∙ sym c.in_ok-item.ensures ∙ c.in-Some-2.is in
    let ascend = subst (Ascend c.loop-key.items) c.in-Some.ensures.steps c.loop-key.invariant.ascend in
    let pushed = c.in_ok-push.ensures.ok in
    record {
      same = c.loop-key.invariant.same ∙ ap (λ rest. items_from c.loop-key.items (members_view rest)) c.in-Some.ensures.steps
          ∙ items_from-next c.loop-key.items m c.next.new.self c.in-Some-2.item read ∙ ap (λ items. items_from items (members_view c.next.new.self)) (sym pushed);
      ascend = subst (λ items. Ascend items c.next.new.self) (sym pushed)
          (Ascend-next c.loop-key.items m c.next.new.self c.in-Some-2.item ascend (entry_key-reading (string_bytes c.in-Some.key.now) (view c.in-Some.value.now) c.in-Some-2.item read));
    }
