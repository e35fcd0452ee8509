use Rattle.std.proofs.Common.{◌≡◌, ◌+◌, ◌||◌, false, ap, sym, ◌∙◌, take, drop}
use Rattle.rs_request.specs.Items.{lists, is_list_item}
use Rattle.rs_request.proofs.ItemLemmas.{lists_at, lists_whole}
use Rattle.rs_request.proofs.item.lists.Goals as goal

pub returns-then-is_list_item : goal.returns-then-is_list_item
returns-then-is_list_item c =
    let item = c.args.item.now in
    let rest = c.loop-comma.rest.now in
    let cut = lists_at item rest c.in-Some.comma (sym c.first_comma.ensures.place ∙ c.in-Some.is) in
    sym (sym c.loop-comma.invariant ∙ cut.1 ∙ ap (λ t. t || lists item (drop (c.in-Some.comma + 1) rest)) (sym c.is_list_item.ensures ∙ c.if-is_list_item.true))

pub loop-comma-preserved : goal.loop-comma-preserved
loop-comma-preserved c =
    let item = c.args.item.now in
    let rest = c.loop-comma.rest.now in
    let cut = lists_at item rest c.in-Some.comma (sym c.first_comma.ensures.place ∙ c.in-Some.is) in
    let later = lists item (drop (c.in-Some.comma + 1) rest) in
    let none : is_list_item item (take c.in-Some.comma rest) ≡ false = sym c.is_list_item.ensures ∙ c.if-is_list_item.false in
    let same = ap (λ t. t || later) (sym none) ∙ sym cut.1 ∙ c.loop-comma.invariant in
    ap (lists item) c.split_at.ensures.back ∙ same

pub returns : goal.returns
returns c =
    c.is_list_item-2.ensures ∙ sym (lists_whole c.args.item.now c.loop-comma.rest.now (sym c.first_comma.ensures.place ∙ c.in_default.is)) ∙ c.loop-comma.invariant
