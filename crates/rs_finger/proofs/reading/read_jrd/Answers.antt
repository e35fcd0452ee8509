use Rattle.std.proofs.Common.{sym, subst}
use Rattle.rs_finger.specs.JrdReadings.{ReadsJrd}
use Rattle.rs_finger.proofs.AnswerLemmas.{jrd_reading-value, jrd_reading-none}
use Rattle.rs_finger.proofs.reading.read_jrd.Goals as goal

pub returns-in-Ok : goal.returns-in-Ok
returns-in-Ok c = record {
  read = subst (ReadsJrd c.read_value.result) (sym (jrd_reading-value c.args.bytes.now _ c.in-Ok.ensures.ok.0 c.in-Ok.ensures.ok.1)) c.read_value.ensures;
}

pub returns-in_default : goal.returns-in_default
returns-in_default c = record {
  read = jrd_reading-none c.args.bytes.now (λ text. c.in-Err.ensures.err (λ memory. c.in_default.not-Memory (c.classify.ensures.memory.1 memory)) text);
}
