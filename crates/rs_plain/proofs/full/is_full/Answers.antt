use Rattle.std.proofs.Common.{◌≡◌, ℕ, ◌+◌, true, false, nat_le, nat_lt, length, arith, sym, ap, ◌∙◌}
use Rattle.std.proofs.lemmas.Bool.{cond-true, cond-false}
use Rattle.std.proofs.lemmas.Bool.Decides.{nat_tests}
use Rattle.rs_path.specs.Paths.{folder_at}
use Rattle.rs_path.specs.Children.{child_towards}
use Rattle.rs_rules.specs.Limits.{max_items}
use Rattle.rs_rules.specs.Contents.{paths_in}
use Rattle.rs_rules.specs.Listings.{children}
use Rattle.rs_plain.specs.Steps.{is_fresh}
use Rattle.rs_plain.proofs.ChildLemmas.{length_more}
use Rattle.rs_plain.proofs.full.is_full.Goals as goal

one_more : (n : ℕ) → nat_le max_items n ≡ nat_lt max_items (n + 1)
one_more n = grind (arith, nat_tests)

pub returns-then-docs-lt-MAX_ITEMS : goal.returns-then-docs-lt-MAX_ITEMS
returns-then-docs-lt-MAX_ITEMS c = record {
  full = λ distinct. sym (c.listing_laws.ensures.room c.args.docs.now c.args.path.now c.args.names.now c.if-docs-lt-MAX_ITEMS.true);
}

pub returns-then-is_fresh : goal.returns-then-is_fresh
returns-then-is_fresh c =
    let docs = c.args.docs.now in
    let path = c.args.path.now in
    let f = folder_at c.args.names.now in
    let n = length (children f (paths_in docs)) in
    let fresh : is_fresh f docs (child_towards f path) ≡ true = sym c.is_fresh.ensures.fresh ∙ c.if-is_fresh.true in
    record {
      full = λ distinct. ap (nat_le max_items) (c.count_children-count.ensures.count distinct) ∙ one_more n
          ∙ ap (nat_lt max_items) (sym (length_more f docs path ∙ cond-true _ (n + 1) n fresh));
    }

pub returns-else-is_fresh : goal.returns-else-is_fresh
returns-else-is_fresh c =
    let docs = c.args.docs.now in
    let path = c.args.path.now in
    let f = folder_at c.args.names.now in
    let n = length (children f (paths_in docs)) in
    let seen : is_fresh f docs (child_towards f path) ≡ false = sym c.is_fresh.ensures.fresh ∙ c.if-is_fresh.false in
    record {
      full = λ distinct. ap (nat_lt max_items) (c.count_children-count.ensures.count distinct ∙ sym (length_more f docs path ∙ cond-false _ (n + 1) n seen));
    }
