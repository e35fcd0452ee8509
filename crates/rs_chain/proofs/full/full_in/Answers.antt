-- Folder by folder: with the document it would have one item more where the document's child is new.
use Rattle.std.proofs.Common.{◌≡◌, ◌<◌, ℕ, ◌+◌, List, [], length, take, drop, get_or, Option, Some, None, sym, ap, ◌∙◌, subst}
use Rattle.rs_path.specs.declared.child.Child.{Child}
use Rattle.rs_chain.specs.Walks.{child_in, step_at}
use Rattle.rs_chain.proofs.WalkLemmas.{child_in_live, way_goes, front_goes, step_is}
use Rattle.rs_chain.proofs.FullLemmas.{full_here, full_past, test_more, test_few, test_over, test_within, count_new, count_old, none_after}
use Rattle.rs_chain.proofs.full.full_in.Goals as goal

pub returns-then-count-ge-MAX_ITEMS : goal.returns-then-count-ge-MAX_ITEMS
returns-then-count-ge-MAX_ITEMS c =
    let s = c.args.nodes.now in
    let p = c.args.path.now in
    let depth : ℕ = c.loop-depth.depth in
    let key : ℕ = c.loop-depth.key in
    let within : depth < length p.names = subst (λ (ns : List (List ℕ)). depth < length ns) c.names-names.ensures.names c.loop-depth-test.true in
    let step : record { name = c.index-names-depth.result; folder = c.leads_on.result } ≡ step_at p depth =
    step_is p depth c.names-names.result.now c.index-names-depth.result c.leads_on.result c.names-names.ensures.names c.loop-depth-test.true c.index-names-depth.is c.leads_on.ensures.on in
    let none : child_in s key (step_at p depth) ≡ None = ap (child_in s key) (sym step) ∙ sym c.in-None.ensures.child in
    record {
      full = λ w shows plain.
          sym (c.loop-depth.invariant.rest w shows plain
          ∙ full_here w.docs p depth within (test_more _ c.kid_count-count.result
          (count_new s c.args.root w p c.requires.listed shows
          (λ f qs d. c.listing_laws.ensures.members f qs d) (λ f qs. c.listing_laws.ensures.sorted f qs)
          (λ f child document. c.listing_laws.ensures.documents f child w.docs document) (λ f child folder. c.listing_laws.ensures.folders f child w.docs folder plain) plain depth key within c.loop-depth.invariant.front none ∙ ap (λ (k : ℕ). k + 1) (sym c.kid_count-count.ensures.count))
          c.if-count-ge-MAX_ITEMS.true));
    }

pub returns-else-count-ge-MAX_ITEMS : goal.returns-else-count-ge-MAX_ITEMS
returns-else-count-ge-MAX_ITEMS c =
    let s = c.args.nodes.now in
    let p = c.args.path.now in
    let depth : ℕ = c.loop-depth.depth in
    let key : ℕ = c.loop-depth.key in
    let within : depth < length p.names = subst (λ (ns : List (List ℕ)). depth < length ns) c.names-names.ensures.names c.loop-depth-test.true in
    let step : record { name = c.index-names-depth.result; folder = c.leads_on.result } ≡ step_at p depth =
    step_is p depth c.names-names.result.now c.index-names-depth.result c.leads_on.result c.names-names.ensures.names c.loop-depth-test.true c.index-names-depth.is c.leads_on.ensures.on in
    let none : child_in s key (step_at p depth) ≡ None = ap (child_in s key) (sym step) ∙ sym c.in-None.ensures.child in
    record {
      full = λ w shows plain.
          sym (c.loop-depth.invariant.rest w shows plain
          ∙ full_past w.docs p depth within (test_few _ c.kid_count-count.result
          (count_new s c.args.root w p c.requires.listed shows
          (λ f qs d. c.listing_laws.ensures.members f qs d) (λ f qs. c.listing_laws.ensures.sorted f qs)
          (λ f child document. c.listing_laws.ensures.documents f child w.docs document) (λ f child folder. c.listing_laws.ensures.folders f child w.docs folder plain) plain depth key within c.loop-depth.invariant.front none ∙ ap (λ (k : ℕ). k + 1) (sym c.kid_count-count.ensures.count))
          c.if-count-ge-MAX_ITEMS.false)
          ∙ none_after s c.args.root w p c.requires.listed shows
          (λ f qs d. c.listing_laws.ensures.members f qs d) (λ f qs. c.listing_laws.ensures.sorted f qs)
          (λ f child document. c.listing_laws.ensures.documents f child w.docs document) (λ f child folder. c.listing_laws.ensures.folders f child w.docs folder plain) plain depth key within c.loop-depth.invariant.front none);
    }

pub returns-then-count-gt-MAX_ITEMS : goal.returns-then-count-gt-MAX_ITEMS
returns-then-count-gt-MAX_ITEMS c =
    let s = c.args.nodes.now in
    let p = c.args.path.now in
    let depth : ℕ = c.loop-depth.depth in
    let key : ℕ = c.loop-depth.key in
    let within : depth < length p.names = subst (λ (ns : List (List ℕ)). depth < length ns) c.names-names.ensures.names c.loop-depth-test.true in
    let step : record { name = c.index-names-depth.result; folder = c.leads_on.result } ≡ step_at p depth =
    step_is p depth c.names-names.result.now c.index-names-depth.result c.leads_on.result c.names-names.ensures.names c.loop-depth-test.true c.index-names-depth.is c.leads_on.ensures.on in
    let some : child_in s key (step_at p depth) ≡ Some c.in-Some.child = ap (child_in s key) (sym step) ∙ sym c.in-Some.ensures.child in
    record {
      full = λ w shows plain.
          sym (c.loop-depth.invariant.rest w shows plain
          ∙ full_here w.docs p depth within (test_over _ c.kid_count-count.result
          (count_old s c.args.root w p c.requires.listed shows
          (λ f qs d. c.listing_laws.ensures.members f qs d) (λ f qs. c.listing_laws.ensures.sorted f qs)
          (λ f child document. c.listing_laws.ensures.documents f child w.docs document) (λ f child folder. c.listing_laws.ensures.folders f child w.docs folder plain) plain depth key c.in-Some.child within c.loop-depth.invariant.front some ∙ sym c.kid_count-count.ensures.count)
          c.if-count-gt-MAX_ITEMS.true));
    }

pub loop-depth-preserved : goal.loop-depth-preserved
loop-depth-preserved c =
    let s = c.args.nodes.now in
    let p = c.args.path.now in
    let depth : ℕ = c.loop-depth.depth in
    let key : ℕ = c.loop-depth.key in
    let within : depth < length p.names = subst (λ (ns : List (List ℕ)). depth < length ns) c.names-names.ensures.names c.loop-depth-test.true in
    let step : record { name = c.index-names-depth.result; folder = c.leads_on.result } ≡ step_at p depth =
    step_is p depth c.names-names.result.now c.index-names-depth.result c.leads_on.result c.names-names.ensures.names c.loop-depth-test.true c.index-names-depth.is c.leads_on.ensures.on in
    let some : child_in s key (step_at p depth) ≡ Some c.in-Some.child = ap (child_in s key) (sym step) ∙ sym c.in-Some.ensures.child in
    record {
      front = front_goes s c.args.root key c.in-Some.child p depth within c.loop-depth.invariant.front some;
      there = child_in_live s c.args.root key c.in-Some.child (step_at p depth) c.requires.listed some;
      rest = λ w shows plain.
          c.loop-depth.invariant.rest w shows plain
          ∙ full_past w.docs p depth within (test_within _ c.kid_count-count.result
          (count_old s c.args.root w p c.requires.listed shows
          (λ f qs d. c.listing_laws.ensures.members f qs d) (λ f qs. c.listing_laws.ensures.sorted f qs)
          (λ f child document. c.listing_laws.ensures.documents f child w.docs document) (λ f child folder. c.listing_laws.ensures.folders f child w.docs folder plain) plain depth key c.in-Some.child within c.loop-depth.invariant.front some ∙ sym c.kid_count-count.ensures.count)
          c.if-count-gt-MAX_ITEMS.false);
    }
