use Rattle.std.proofs.Common.{arith, ap, length, length-append, [], ◌∷◌}
use Rattle.rs_serve.proofs.StaffLemmas.{none_staffed, staffs_more, split_here}
use Rattle.rs_serve.proofs.staffing.staff.Goals as goal

pub loop-post-init : goal.loop-post-init
loop-post-init g c = record {
  staffed = none_staffed (λ desk. desk.each.items) c.args.first.now.each.items c.args.posts.now.items c.in_ok-workers.workers.items c.in_ok-workers.ensures.items;
  hall = c.requires.hall;
  place = let few = c.requires.few in omega (arith, few);
}

pub loop-post-preserved : goal.loop-post-preserved
loop-post-preserved g c =
    let before = c.loop-post.invariant in
    record {
      staffed = staffs_more (λ desk. desk.each.items) c.args.first.now.each.items c.loop-post.first.each.items c.split_seats.new.first.each.items
          c.args.posts.now.items c.loop-post.posts.items c.pop.new.self.items c.loop-post.workers.items c.push.new.self.items _
          before.staffed c.in-Some.ensures.items c.in_ok-push.ensures.items c.in_ok-desk.ensures.known
          (split_here (λ desk. desk.each.items) c.args.first.now.each.items c.loop-post.first.each.items c.split_seats.new.first.each.items _ _
          before.staffed.known before.hall c.in_ok-desk.ensures.split);
      hall = c.in_ok-desk.ensures.own;
      place =
          let so_far = before.place in
          let many = ap (λ l. length l) c.in-Some.ensures.items in
          omega (arith, so_far, many, length-append c.pop.new.self.items (c.in-Some.post ∷ []));
    }
