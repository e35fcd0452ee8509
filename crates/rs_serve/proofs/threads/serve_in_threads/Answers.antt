use Rattle.std.proofs.Common.{rules, ◌≡◌, length}
use Rattle.rs_serve.proofs.HallLemmas.{served_at, served_from}
use Rattle.rs_serve.proofs.threads.serve_in_threads.Goals as goal

pub returns : goal.returns
returns g c =
    let many : length c.for_each_mut.new.s ≡ length c.args.workers.now = search rules in
    record {
      served = served_from _ _ (λ desk. desk.each.items) c.args.workers.now c.for_each_mut.new.s many
          (λ i d few.
          let at = (c.for_each_mut.ensures i d few).1 in
          served_at _ _ (λ desk. desk.each.items) _ _ at.argument.now at.after_call.now at.call at.argument_is at.left);
    }
