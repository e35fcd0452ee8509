use Rattle.std.proofs.Common.{rules, ◌≡◌, ◌∙◌, length, arith, ap, refl, sym}
use Rattle.rs_serve.proofs.HallLemmas.{after_of_hall, all_at_hall, desk_there, desk_locks, desk_many, hall_served_by, late_many, locks_many, meets_of_hall, posts_many, served_many, served_whole, some_worker}
use Rattle.rs_serve.proofs.ListLemmas.{slice_again}
use Rattle.rs_serve.proofs.ReturnLemmas.{none_left}
use Rattle.rs_serve.proofs.StaffLemmas.{known_locks}
use Rattle.rs_serve.proofs.serving.serve_hall.Goals as goal

pub serve_in_threads-requires-clause-users : goal.serve_in_threads-requires-clause-users
serve_in_threads-requires-clause-users g c =
    let many : length c.args.hall.now.locks.items ≡ length c.args.front.now.accounts =
    locks_many c.args.seats.each.items c.args.hall.now.locks.items c.requires.hall ∙ (sym c.requires.users ∙ c.requires.accounts) in
    search rules

pub serve_in_threads-requires-clause-hall : goal.serve_in_threads-requires-clause-hall
serve_in_threads-requires-clause-hall g c κs lives =
    all_at_hall (λ desk. desk.each.items) c.args.hall.now.locks.items c.args.seats.each.items c.in_ok-workers.workers.items c.as_mut_slice.result.now _
    (c.as_mut_slice.ensures.value ∙ c.in_ok-push.ensures.items) c.requires.hall c.in_ok-workers.ensures.staffed.of_hall (known_locks c.in_ok-workers.ensures.staffed.known)

pub unreachable-requires-in_default-pop : goal.unreachable-requires-in_default-pop
unreachable-requires-in_default-pop g c =
    some_worker _ _ (λ desk. desk.each.items) c.in_ok-workers.workers.items c.push.new.self.items _ _
    c.in_ok-push.ensures.items
    (none_left _ c.pop-2.new.self.items _ c.in_default-pop.ensures.items c.in_default-pop.ensures.cases.0 c.in_default-pop.ensures.rest)
    (served_whole _ _ (λ desk. desk.each.items) c.as_mut_slice.result.now _ c.serve_in_threads.new.workers _ c.as_mut_slice.ensures.value
    (slice_again _ c.serve_in_threads.new.workers _ _ refl (served_many _ _ (λ desk. desk.each.items) _ _ c.serve_in_threads.ensures.served ∙ c.as_mut_slice.ensures.len))
    c.serve_in_threads.ensures.served)

pub unreachable-requires-in_default-desk : goal.unreachable-requires-in_default-desk
unreachable-requires-in_default-desk g c =
    desk_there _ _ (λ desk. desk.each.items) c.in_ok-workers.workers.items c.pop-2.new.self.items c.push.new.self.items _ _
    c.in-Some-pop.field-0 c.staff.new.first c.in_ok-push.ensures.items c.in-Some-pop.ensures.items (served_whole _ _ (λ desk. desk.each.items) c.as_mut_slice.result.now _ c.serve_in_threads.new.workers _ c.as_mut_slice.ensures.value
    (slice_again _ c.serve_in_threads.new.workers _ _ refl (served_many _ _ (λ desk. desk.each.items) _ _ c.serve_in_threads.ensures.served ∙ c.as_mut_slice.ensures.len))
    c.serve_in_threads.ensures.served) refl c.in_default-desk.is

pub new-desk-requires : goal.new-desk-requires
new-desk-requires g c =
    desk_locks _ _ (λ desk. desk.each.items) c.in_ok-workers.workers.items c.pop-2.new.self.items c.push.new.self.items _ _
    c.in-Some-pop.field-0 c.staff.new.first c.in-Some-desk.seats c.in_ok-push.ensures.items c.in-Some-pop.ensures.items (served_whole _ _ (λ desk. desk.each.items) c.as_mut_slice.result.now _ c.serve_in_threads.new.workers _ c.as_mut_slice.ensures.value
    (slice_again _ c.serve_in_threads.new.workers _ _ refl (served_many _ _ (λ desk. desk.each.items) _ _ c.serve_in_threads.ensures.served ∙ c.as_mut_slice.ensures.len))
    c.serve_in_threads.ensures.served) refl
    c.in-Some-desk.is ∙ (known_locks c.in_ok-workers.ensures.staffed.known ∙ c.requires.hall)

pub serve_late-requires-clause-users : goal.serve_late-requires-clause-users
serve_late-requires-clause-users g c =
    let many : length c.new-desk.result.seats.each.items ≡ length c.args.front.now.accounts =
    ap (λ s. length s.each.items) c.new-desk.ensures.seats
    ∙ (desk_many _ _ (λ desk. desk.each.items) c.in_ok-workers.workers.items c.pop-2.new.self.items c.push.new.self.items _ _
    c.in-Some-pop.field-0 c.staff.new.first c.in-Some-desk.seats c.args.seats.each.items c.staff.new.first.each.items c.in_ok-push.ensures.items
    c.in-Some-pop.ensures.items (served_whole _ _ (λ desk. desk.each.items) c.as_mut_slice.result.now _ c.serve_in_threads.new.workers _ c.as_mut_slice.ensures.value
    (slice_again _ c.serve_in_threads.new.workers _ _ refl (served_many _ _ (λ desk. desk.each.items) _ _ c.serve_in_threads.ensures.served ∙ c.as_mut_slice.ensures.len))
    c.serve_in_threads.ensures.served) refl c.in-Some-desk.is refl c.in_ok-workers.ensures.staffed.known
    ∙ (sym c.requires.users ∙ c.requires.accounts)) in
    search rules

pub meet_all-requires-clause-own : goal.meet_all-requires-clause-own
meet_all-requires-clause-own g c =
    after_of_hall _ _ (λ desk. desk.each.items) c.args.hall.now.locks.items c.in_ok-workers.workers.items c.pop-2.new.self.items c.push.new.self.items
    _ c.as_mut_slice-2.result.now c.serve_late.new.workers _ c.in-Some-pop.field-0 c.staff.new.first c.in-Some-desk.seats
    c.args.seats.each.items c.new-desk.result.seats.each.items c.serve_late.new.desk.seats.each.items c.in_ok-push.ensures.items c.in-Some-pop.ensures.items
    (served_whole _ _ (λ desk. desk.each.items) c.as_mut_slice.result.now _ c.serve_in_threads.new.workers _ c.as_mut_slice.ensures.value
    (slice_again _ c.serve_in_threads.new.workers _ _ refl (served_many _ _ (λ desk. desk.each.items) _ _ c.serve_in_threads.ensures.served ∙ c.as_mut_slice.ensures.len))
    c.serve_in_threads.ensures.served) refl c.in-Some-desk.is c.in_ok-workers.ensures.staffed.known (ap (λ s. s.each.items) c.new-desk.ensures.seats)
    c.serve_late.ensures.late c.requires.hall

pub meet_all-requires-clause-hall : goal.meet_all-requires-clause-hall
meet_all-requires-clause-hall g c =
    let same : c.as_mut_slice-3.result.now ≡ c.serve_late.new.workers =
    slice_again _ c.serve_late.new.workers _ c.as_mut_slice-3.result.now c.as_mut_slice-3.ensures.value (late_many _ _ c.serve_late.ensures.late ∙ c.as_mut_slice-2.ensures.len) in
    meets_of_hall _ _ (λ desk. desk.each.items) c.args.hall.now.locks.items c.in_ok-workers.workers.items c.pop-2.new.self.items c.push.new.self.items
    _ c.as_mut_slice-2.result.now c.serve_late.new.workers c.as_mut_slice-3.result.now _ c.in-Some-pop.field-0
    c.args.seats.each.items c.new-desk.result.seats.each.items c.serve_late.new.desk.seats.each.items c.in_ok-push.ensures.items c.in-Some-pop.ensures.items
    (served_whole _ _ (λ desk. desk.each.items) c.as_mut_slice.result.now _ c.serve_in_threads.new.workers _ c.as_mut_slice.ensures.value
    (slice_again _ c.serve_in_threads.new.workers _ _ refl (served_many _ _ (λ desk. desk.each.items) _ _ c.serve_in_threads.ensures.served ∙ c.as_mut_slice.ensures.len))
    c.serve_in_threads.ensures.served) c.as_mut_slice-2.ensures.value c.serve_late.ensures.late same c.requires.hall c.in_ok-workers.ensures.staffed.of_hall

pub returns : goal.returns
returns g c =
    let same : c.as_mut_slice-3.result.now ≡ c.serve_late.new.workers =
    slice_again _ c.serve_late.new.workers _ c.as_mut_slice-3.result.now c.as_mut_slice-3.ensures.value (late_many _ _ c.serve_late.ensures.late ∙ c.as_mut_slice-2.ensures.len) in
    record {
      serves = hall_served_by _ _ (λ desk. desk.each.items) c.args.seats.each.items c.staff.new.first.each.items c.new-desk.result.seats.each.items
          c.serve_late.new.desk.seats.each.items c.meet_all.new.first.seats.each.items c.into_seats.result.each.items c.args.posts.now.items
          c.reverse-2.new.self.items c.reverse.new.self.items c.pop.new.self.items c.push-2.new.self.items c.put_back.new.posts.items c.staff.new.posts.items
          c.in-Some.post c.in_ok-workers.workers.items c.push.new.self.items _ c.pop-2.new.self.items
          c.as_mut_slice-2.result.now c.serve_late.new.workers c.as_mut_slice-3.result.now c.meet_all.new.workers _ _ c.in-Some-pop.field-0 c.staff.new.first
          c.in-Some-desk.seats c.in_ok-tally.tally c.reverse.ensures.items c.in-Some.ensures.items c.in_ok-workers.ensures.staffed c.in_ok-push.ensures.items refl
          refl refl (served_whole _ _ (λ desk. desk.each.items) c.as_mut_slice.result.now _ c.serve_in_threads.new.workers _ c.as_mut_slice.ensures.value
          (slice_again _ c.serve_in_threads.new.workers _ _ refl (served_many _ _ (λ desk. desk.each.items) _ _ c.serve_in_threads.ensures.served ∙ c.as_mut_slice.ensures.len))
          c.serve_in_threads.ensures.served) c.in-Some-pop.ensures.items c.in-Some-desk.is c.as_mut_slice-2.ensures.value
          (ap (λ s. s.each.items) c.new-desk.ensures.seats) c.serve_late.ensures.late same c.meet_all.ensures.later c.meet_all.ensures.seen
          (ap (λ s. s.each.items) c.into_seats.ensures) c.meet_all.ensures.posts c.meet_all.ensures.served c.meet_all.ensures.failed c.in_ok-tally.ensures.posts
          c.in_ok-workers.ensures.taken c.in_ok-tally.ensures.served c.in_ok-tally.ensures.failed c.in_ok-push-2.ensures.items c.reverse-2.ensures.items
          (λ user account. omega (arith, account, c.requires.users, c.requires.accounts))
          (slice_again _ c.meet_all.new.workers _ _ refl (posts_many _ _ c.meet_all.ensures.posts ∙ c.as_mut_slice-3.ensures.len));
    }
