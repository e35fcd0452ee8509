use Rattle.std.proofs.Common.{arith}
use Rattle.rs_scope.proofs.ReadingLemmas.{lawful}
use Rattle.rs_scope.proofs.reading.read_scopes.Goals as goal

pub returns-clause-scopes : goal.returns-clause-scopes
returns-clause-scopes c = lawful c.args.text.now c.read_words.result (omega arith) c.read_words.ensures
