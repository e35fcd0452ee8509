use Rattle.std.proofs.Common.{length, arith, ap, subst}
use Rattle.rs_user.specs.Sights.{IsSight}
use Rattle.rs_user.proofs.limits.live_after.Goals.{in-Document, in_default}
use Rattle.rs_user.proofs.limits.live_after.Goals as goal

pub overflow_sub-result : goal.overflow_sub-result
overflow_sub-result g c =
    let room = c.requires.room in
    let live = c.live.ensures.live room.0 room.2 in
    elim c.match-sight.branch [
      | in-Document w ↦
          let seen = subst (λ sight. IsSight sight room.0 room.1) w.in-Document.is room.3 in
          let sum = c.live_laws.ensures.present room.1 room.0.docs w.in-Document.doc.now (g.met.T.Tree.distinct c.args.tree.now room.0 room.2) seen.1 in
          let bytes = ap length w.as_slice.ensures.bytes in
          let is = w.replaced-is in
          omega (arith, live, sum, bytes, is)
      | in_default w ↦
          let is = w.replaced-is in
          omega (arith, is)
    ]
