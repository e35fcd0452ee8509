use Rattle.std.proofs.Common.{◌≡◌, [], ◌∷◌, ◌++◌, sym, ◌∙◌, subst, append_assoc}
use Rattle.std.specs.Prelude.{decimal}
use Rattle.std.proofs.lemmas.Result.{err_from_is_err_and}
use Rattle.rs_face.proofs.Cited.{AppendsFront-longer}
use Rattle.rs_face.specs.Courses.{course, Writes}
use Rattle.rs_cli.specs.Grants.{line_of}
use Rattle.rs_cli.proofs.PrintLemmas.{writes_behind}
use Rattle.rs_cli.proofs.printing.write_count.Goals as goal

pub returns-in_err-write_all-clause-writes : goal.returns-in_err-write_all-clause-writes
returns-in_err-write_all-clause-writes g c =
    let p = err_from_is_err_and c.from_residual.result c.from_residual.ensures.1 in
    let text = c.args.text.now in
    let number = decimal c.args.count in
    rw p.1 (AppendsFront-longer _ _ (text ++ number) (10 ∷ []) (AppendsFront-longer _ _ text number c.in_err-write_all.ensures.err))

pub returns-clause-writes : goal.returns-clause-writes
returns-clause-writes g c =
    let text = c.args.text.now in
    let number = decimal c.args.count in
    let same : c.as_bytes.result.now ≡ number = c.as_bytes.ensures.value ∙ c.format.ensures.text in
    subst (λ line. Writes (course g.W.Sink.written g.W.Sink.faults c.args.sink.now c.write_line.new.sink) line c.write_line.result) (sym (append_assoc text number (10 ∷ [])))
    (writes_behind _ _ _ text (line_of number) 0 0 0 0 c.write_line.result c.in_ok-write_all.ensures.ok
    (subst (λ n. Writes (course g.W.Sink.written g.W.Sink.faults c.write_all.new.sink c.write_line.new.sink) (line_of n) c.write_line.result) same c.write_line.ensures.writes))
