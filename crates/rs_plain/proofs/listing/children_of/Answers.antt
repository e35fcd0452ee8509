use Rattle.std.proofs.Common.{◌≡◌, ℕ, ◌+◌, ◌<◌, true, IsTrue, IfSome, All, List, [], length, take, get_or, fold, Option, Some, None, sym, ap, ◌∙◌, subst}
use Rattle.std.specs.List.{cons_option}
use Rattle.std.specs.BTreeSet.{insert_key}
use Rattle.std.proofs.lemmas.Map.Views.{All-insert_key}
use Rattle.rs_path.specs.declared.child.Child.{Child}
use Rattle.rs_path.specs.Names.{is_name}
use Rattle.rs_path.specs.Paths.{Path}
use Rattle.rs_path.specs.Children.{child_cmp, child_towards}
use Rattle.rs_rules.specs.declared.placed.Placed.{Placed}
use Rattle.rs_rules.specs.Contents.{paths_in}
use Rattle.rs_rules.specs.Listings.{children}
use Rattle.rs_plain.proofs.ChildLemmas.{children_more, paths_more}
use Rattle.rs_plain.proofs.listing.children_of.Goals as goal
use Rattle.rs_plain.proofs.listing.children_of.Goals.{in-Some+in_ok-insert, in_default}

abbrev Named : Child → Type 0
Named child = is_name child.name ≡ true

all_named : (o : Option Child) (keys new : List Child) → IfSome o (λ c. IsTrue (is_name c.name)) → new ≡ fold (insert_key child_cmp) keys (cons_option o [])
    → All Named keys → All Named new
all_named None keys new named same all = subst (All Named) (sym same) all
all_named (Some x) keys new named same all = subst (All Named) (sym same) (All-insert_key child_cmp x Named keys all named)

step : (f : Path) (docs : List Placed) (i : ℕ) (d : Placed) (o : Option Child) (keys new : List Child)
    → i < length docs → d ≡ get_or docs i d → o ≡ child_towards f d.path → IfSome o (λ c. IsTrue (is_name c.name))
    → keys ≡ children f (paths_in (take i docs)) → All Named keys → new ≡ fold (insert_key child_cmp) keys (cons_option o [])
    → (new ≡ children f (paths_in (take (i + 1) docs))) × All Named new
step f docs i d o keys new within is towards named so all same = (
  same ∙ ap (λ p. fold (insert_key child_cmp) keys (cons_option p [])) towards
      ∙ ap (λ l. fold (insert_key child_cmp) l (cons_option (child_towards f d.path) [])) so
      ∙ sym (ap (children f) (paths_more docs i d within is) ∙ children_more f (paths_in (take i docs)) d.path),
  all_named o keys new named same all,
)

-- src/listing.rt:41:5
pub loop-placed-preserved : goal.loop-placed-preserved
loop-placed-preserved c =
    let l = c.loop-placed in
    let child = c.in_ok-child in
    let put = λ (o : Option Child). fold (insert_key child_cmp) l.found.keys (cons_option o []) in
    let next = step c.args.folder.now c.args.docs.now l.placed-index c.placed-item.result child.field-0 l.found.keys c.match-branch-2.found.keys
    c.loop-placed-test.true c.placed-item.is child.ensures.child child.ensures.name l.invariant.0 l.invariant.1 in
    elim c.match-branch-2.branch [
      | in-Some+in_ok-insert w ↦ next (ap (λ s. s.keys) w.found-is ∙ w.in_ok-insert.ensures.keys ∙ sym (ap put w.in-Some.is))
      | in_default w ↦ next (ap (λ s. s.keys) w.found-is ∙ sym (ap put w.in_default.is))
    ]
