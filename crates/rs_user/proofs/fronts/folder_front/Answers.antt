use Rattle.std.proofs.Common.{◌≡◌, length, get_or, arith, ap, ◌∙◌}
use Rattle.rs_path.specs.Below.{ancestors_of}
use Rattle.rs_user.proofs.FrontLemmas.{ancestors_count, ancestor_at}
use Rattle.rs_user.proofs.fronts.folder_front.Goals as goal

pub remove-requires : goal.remove-requires
remove-requires c =
    let count = ancestors_count c.args.path.now in
    let few = c.requires.few in
    let long : length c.in_ok-ancestors.ancestors.items ≡ length (ancestors_of c.args.path.now) = ap length c.in_ok-ancestors.ensures.ancestors in
    omega (arith, count, few, long, c.in_ok-ancestors.ancestors.ok)

pub returns : goal.returns
returns c = record {
  folder = c.remove.ensures.value
      ∙ ap (λ list. get_or list c.args.count c.remove.result) c.in_ok-ancestors.ensures.ancestors
      ∙ ancestor_at c.args.path.now c.args.count c.remove.result c.requires.few;
}
