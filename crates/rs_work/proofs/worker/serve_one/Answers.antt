use Rattle.std.proofs.Common.{Bool, ap, ◌∙◌}
use Rattle.rs_face.specs.Listening.{with_last}
use Rattle.rs_work.proofs.worker.serve_one.Goals as goal

pub returns-clause-connection : goal.returns-clause-connection
returns-clause-connection g c =
    let source = c.serve_stream-end.new.source in
    let sink = c.serve_stream-end.new.sink in
    record {
      source_left = source;
      sink_left = sink;
      returned = c.end.ensures.back
          ∙ ap (λ (b : Bool). with_last (g.N.Listener.back c.args.listener.now) (record { source = source; sink = sink; starved = b })) c.is_starved.ensures.starved;
      holds = c.serve_stream-end.ensures.serves;
    }
