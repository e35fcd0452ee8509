use Rattle.std.proofs.Common.{refl}
use Rattle.rs_hall.specs.Rooms.{history_of}
use Rattle.rs_hall.specs.Halls.{list_at}
use Rattle.rs_serve.proofs.threads.serve_post.Goals as goal

pub returns : goal.returns
returns g c = record {
  run = λ has_seats.
      let all = c.work.ensures.connections in
      let held = all.holds (λ user. history_of (list_at c.args.desk.now.seats.each.items user)) (λ user within. refl) in
      record {
        now = held.0;
        lists = held.1;
        run = record {
          works = record { all = all.all; taken = all.taken; returned = all.returned; counted = all.counted; holds = held.2 };
          given = c.work.ensures.given;
          ended = c.work.ensures.ended;
        };
        later = c.work.ensures.is_later;
      };
}
