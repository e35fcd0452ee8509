use Rattle.std.proofs.Common.{IfSome, subst}
use Rattle.std.specs.declared.ops.Bound.TheVariants.{Included}
use Rattle.rs_path.specs.Paths.{Path}
use Rattle.rs_path.specs.PathOrder.{path_cmp_total}
use Rattle.rs_cache.specs.PastChildren.{IsPastChild}
use Rattle.rs_cache.proofs.BelowLemmas.{below-behind}
use Rattle.rs_cache.proofs.ScanLemmas.{started-behind}
use Rattle.rs_cache.proofs.PastLemmas.{past-below, past-behind, started-past, not-started, same-between}
use Rattle.rs_cache.proofs.client.Client.next_child.Goals as goal

pub first_shown-requires-clause-behind : goal.first_shown-requires-clause-behind
first_shown-requires-clause-behind c q started =
    path_cmp_total.trans c.args.folder.now c.args.path.now q (below-behind c.args.folder.now c.args.path.now c.requires.below) (started-behind c.args.path.now q started)

pub first_shown-requires-in-Some-clause-behind : goal.first_shown-requires-in-Some-clause-behind
first_shown-requires-in-Some-clause-behind c q started =
    let f = c.args.folder.now in
    let past : Path = c.in-Some.past in
    let is : IsPastChild f c.args.path.now past = subst (λ o. IfSome o (λ p. IsPastChild f c.args.path.now p)) c.in-Some.is c.in_ok-past_child.ensures.past in
    started-past f past q (below-behind f past (past-below f c.args.path.now past c.requires.folder is)) started

pub returns-in-Some : goal.returns-in-Some
returns-in-Some c =
    let f = c.args.folder.now in
    let p = c.args.path.now in
    let past : Path = c.in-Some.past in
    let is : IsPastChild f p past = subst (λ o. IfSome o (λ q. IsPastChild f p q)) c.in-Some.is c.in_ok-past_child.ensures.past in
    record {
      next = record {
        start = Included past;
        at = c.first_shown-in-Some.ensures.first;
        behind = λ q started. started-past p past q (past-behind f p past c.requires.below is) started;
        same = λ q named below less out. same-between f p q past c.names.ensures.path named c.requires.below below is less (not-started past q out);
      };
    }
