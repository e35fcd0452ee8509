use Rattle.std.proofs.Common.{◌≡◌, ℕ, Bool, List, [], ◌∷◌, ◌++◌, drop, Some, refl, sym, ap, ◌∙◌}
use Rattle.std.proofs.lemmas.List.{take_rest}
use Rattle.rs_rules.specs.declared.entity_tag.EntityTag.{EntityTag}
use Rattle.rs_rules.specs.CondReadings.{quoted_text, is_marked, unmarked}
use Rattle.rs_rules.proofs.ReadingLemmas.{item_read, read_some, read_none, added, left_out}
use Rattle.rs_rules.proofs.reading.add_item.Goals as goal

make : Bool → List ℕ → EntityTag
make weak tag = record { weak = weak; tag = tag }

pub returns-in_ok-push-in-Some-2 : goal.returns-in_ok-push-in-Some-2
unfolding make
returns-in_ok-push-in-Some-2 c =
    let item = c.args.item.now in
    let text = c.in-Some-tag_text.text.now in
    let told : Some text ≡ quoted_text (unmarked (drop c.in-Some.start item)) = rw take_rest at c.in-Some-tag_text.ensures.text in
    let tagged = read_some text c.in-Some-2.tag (sym c.in-Some-2.is ∙ c.in_ok-tag.ensures.read) in
    let weak : c.is_marked.result ≡ is_marked (drop c.in-Some.start item) = rw take_rest at c.is_marked.ensures in
    let same : make c.is_marked.result c.in-Some-2.tag ≡ make (is_marked (drop c.in-Some.start item)) text =
    ap (λ w. make w c.in-Some-2.tag) weak ∙ ap (make (is_marked (drop c.in-Some.start item))) tagged.0 in
    record {
      adds = (
        Some (make (is_marked (drop c.in-Some.start item)) text),
        item_read item text c.in-Some.start c.in-Some.ensures told,
        refl,
        c.in_ok-push-in-Some-2.ensures.ok ∙ ap (λ t. c.args.tags.now ++ t ∷ []) same
            ∙ added c.args.tags.now (make (is_marked (drop c.in-Some.start item)) text) tagged.1,
      );
    }

pub returns-in-None : goal.returns-in-None
unfolding make
returns-in-None c =
    let item = c.args.item.now in
    let text = c.in-Some-tag_text.text.now in
    let told : Some text ≡ quoted_text (unmarked (drop c.in-Some.start item)) = rw take_rest at c.in-Some-tag_text.ensures.text in
    let other = read_none text (sym c.in-None.is ∙ c.in_ok-tag.ensures.read) in
    record {
      adds = (
        Some (make (is_marked (drop c.in-Some.start item)) text),
        item_read item text c.in-Some.start c.in-Some.ensures told,
        refl,
        left_out c.args.tags.now (make (is_marked (drop c.in-Some.start item)) text) other,
      );
    }
