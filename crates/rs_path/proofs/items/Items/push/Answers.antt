use Rattle.std.proofs.Common.{◌≡◌, true, All, sym, subst}
use Rattle.rs_path.specs.declared.entry.Entry.{Entry}
use Rattle.rs_path.specs.Items.{comes_before}
use Rattle.rs_path.proofs.ItemLemmas.{is_ascending-push, is_item-push, is_entry-push}
use Rattle.rs_path.proofs.items.Items.push.Goals as goal

pub invariant_of-self-2 : goal.invariant_of-self-2
invariant_of-self-2 c =
    let entries = c.self.inside.list.items in
    let Before : Entry → Type 0 = λ entry. comes_before entry c.args.item ≡ true in
    let above : All Before entries = subst (All Before) (sym c.self.view_is) c.requires.above in
    rw c.in_ok-push.ensures.items
    record {
      ascending = is_ascending-push entries c.args.item c.self.invariant.ascending above;
      plain = is_item-push entries c.args.item c.self.invariant.plain c.requires.plain;
      parts = is_entry-push entries c.args.item c.self.invariant.parts c.look.ensures.parts;
    }
