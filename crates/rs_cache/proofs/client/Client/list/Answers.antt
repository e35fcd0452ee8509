use Rattle.std.proofs.Common.{◌<◌, List, option_copied, sym, subst}
use Rattle.std.specs.List.Sorted.{IsStrictlySortedBy}
use Rattle.std.specs.Map.{keys_of}
use Rattle.rs_path.specs.declared.child.Child.{Child}
use Rattle.rs_path.specs.Paths.{path_cmp}
use Rattle.rs_cache.specs.Lists.{still_to_come}
use Rattle.rs_cache.specs.States.{State}
use Rattle.rs_cache.proofs.ListLemmas.{IsListing, list-start, list-next, list-end, list-shorter, listing-below, known-sorted}
use Rattle.rs_cache.proofs.client.Client.list.Goals as goal

pub loop-next-init : goal.loop-next-init
loop-next-init c =
    subst (λ (keys : List Child). IsListing c.args.self.now c.args.folder.now keys (option_copied c.first_shown-next.result)) (sym c.new-children.ensures.empty)
    (list-start c.args.self.now c.args.folder.now (option_copied c.first_shown-next.result) c.requires.folder c.first_shown-next.ensures.first)

pub child_of-requires : goal.child_of-requires
child_of-requires c =
    let at = subst (λ next. IsListing c.args.self.now c.args.folder.now c.loop-next.children.keys (option_copied next)) c.in-Some.is c.loop-next.invariant in
    record { below = listing-below c.args.self.now c.args.folder.now c.in-Some.path.now c.loop-next.children.keys at }

pub next_child-requires-clause-below : goal.next_child-requires-clause-below
next_child-requires-clause-below c =
    let at = subst (λ next. IsListing c.args.self.now c.args.folder.now c.loop-next.children.keys (option_copied next)) c.in-Some.is c.loop-next.invariant in
    listing-below c.args.self.now c.args.folder.now c.in-Some.path.now c.loop-next.children.keys at

pub loop-next-smaller : goal.loop-next-smaller
loop-next-smaller c =
    let at = subst (λ next. IsListing c.args.self.now c.args.folder.now c.loop-next.children.keys (option_copied next)) c.in-Some.is c.loop-next.invariant in
    let shorter = list-shorter c.args.self.now c.args.folder.now c.in-Some.path.now (option_copied c.in_ok-next.next) c.loop-next.children.keys at c.in_ok-next.ensures.next in
    subst (λ next. still_to_come c.args.self.now (option_copied c.in_ok-next.next) < still_to_come c.args.self.now (option_copied next)) (sym c.in-Some.is) shorter

pub loop-next-preserved : goal.loop-next-preserved
loop-next-preserved c =
    let s = c.args.self.now in
    let at = subst (λ next. IsListing s c.args.folder.now c.loop-next.children.keys (option_copied next)) c.in-Some.is c.loop-next.invariant in
    let sorted = known-sorted s (subst (λ (s : State). IsStrictlySortedBy path_cmp (keys_of s.base)) c.self.view_is c.len.ensures.ordered) in
    list-next s c.args.folder.now c.in-Some.path.now c.in_ok-child_of.field-0 c.loop-next.children.keys c.insert.new.self.keys (option_copied c.in_ok-next.next)
    c.requires.folder sorted at c.names.ensures.path c.in_ok-child_of.ensures.child c.in_ok-insert.ensures.keys c.in_ok-next.ensures.next

pub returns : goal.returns
returns c =
    let at = subst (λ next. IsListing c.args.self.now c.args.folder.now c.loop-next.children.keys (option_copied next)) c.in_default.is c.loop-next.invariant in
    record { list = list-end c.args.self.now c.args.folder.now c.loop-next.children.keys c.requires.folder at }
