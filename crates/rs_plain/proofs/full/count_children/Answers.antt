use Rattle.std.proofs.Common.{◌≡◌, ℕ, ◌+◌, ◌<◌, ◌≤◌, Bool, true, false, cond, List, length, take, get_or, Some, ◌⊎◌, arith, sym, ap, ◌∙◌}
use Rattle.rs_path.specs.Paths.{Path, folder_at}
use Rattle.rs_path.specs.declared.child.Child.{Child}
use Rattle.rs_path.specs.Below.{is_below}
use Rattle.rs_path.specs.Children.{child_at, child_towards}
use Rattle.rs_rules.specs.declared.placed.Placed.{Placed}
use Rattle.rs_rules.specs.Contents.{paths_in}
use Rattle.rs_rules.specs.Listings.{children}
use Rattle.rs_rules.specs.Sound.{AreDistinct}
use Rattle.rs_plain.specs.Steps.{is_first}
use Rattle.rs_plain.proofs.FirstLemmas.{first_fresh}
use Rattle.rs_plain.proofs.ChildLemmas.{length_more, paths_at}
use Rattle.rs_plain.proofs.full.count_children.Goals as goal
use Rattle.rs_plain.proofs.full.count_children.Goals.{then-is_first, else-is_first}

small : (b : Bool) (n i : ℕ) → n ≤ i → cond b (n + 1) n ≤ i + 1
small true n i most = omega (arith, most)
small false n i most = omega (arith, most)

count_more : ((f p : Path) (c : Child) → child_towards f p ≡ Some c → (child_at f c ≡ p) ⊎ (is_below (child_at f c) p ≡ true))
    → (f : Path) (docs : List Placed) (i n m : ℕ) (d : Placed) (b : Bool) → i < length docs
    → is_first f (take i docs) (child_towards f (get_or docs i d).path) ≡ b
    → (AreDistinct docs → n ≡ length (children f (paths_in (take i docs)))) → n ≤ i → m ≡ cond b (n + 1) n
    → (AreDistinct docs → m ≡ length (children f (paths_in (take (i + 1) docs)))) × (m ≤ i + 1)
count_more leads f docs i n m d b within first so most now =
    let all = length (children f (paths_in (take i docs))) in
    let bound = small b n i most in (
      λ distinct. now ∙ ap (λ k. cond b (k + 1) k) (so distinct)
          ∙ sym
          (ap (λ ps. length (children f ps)) (paths_at docs i d within) ∙ length_more f (take i docs) (get_or docs i d).path
          ∙ ap (λ t. cond t (all + 1) all) (sym (first_fresh leads f docs i d distinct within) ∙ first)),
      omega (arith, bound, now),
    )

pub loop-i-preserved : goal.loop-i-preserved
loop-i-preserved c =
    let f = folder_at c.args.names.now in
    let docs = c.args.docs.now in
    let inv = c.loop-i.invariant in
    let leads = c.child_laws.ensures.leads in
    elim c.if-is_first.branch [
      | then-is_first w ↦ count_more leads f docs c.loop-i.i c.loop-i.count c.if-is_first.count c.index-docs-i.result true c.loop-i-test.true (sym c.is_first.ensures.first ∙ w.if-is_first.true) inv.0 inv.1 w.count-is
      | else-is_first w ↦ count_more leads f docs c.loop-i.i c.loop-i.count c.if-is_first.count c.index-docs-i.result false c.loop-i-test.true (sym c.is_first.ensures.first ∙ w.if-is_first.false) inv.0 inv.1 w.count-is
    ]
