use Rattle.std.proofs.Common.{◌++◌, length, refl, sym, ap, ◌∙◌, arith}
use Rattle.std.proofs.Math.Seq.{take-length}
use Rattle.rs_request.proofs.MoveLemmas.{data_waits}
use Rattle.rs_request.proofs.body.BodyReader.take_of_chunk.Goals as goal

pub returns-clause-took : goal.returns-clause-took
returns-clause-took c is at =
    let piece = c.args.piece.now in
    let old = c.args.self.now in
    let lacks = c.if-left-count.false in
    (data_waits old _ at c.args.left (length piece) piece c.requires refl
    (c.in_ok-put_some.ensures.ok ∙ ap (λ xs. old.body.items ++ xs) (sym (take-length piece))) (omega (arith, lacks)) (omega arith) (omega (arith, lacks))).0
