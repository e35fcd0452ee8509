use Rattle.sqlite.proofs.Callers.{finds_again}
use Rattle.rs_sqlite.proofs.reopening.reconnect.Goals as goal

pub returns-in-Ok-open_files-clause-same : goal.returns-in-Ok-open_files-clause-same
returns-in-Ok-open_files-clause-same g c clean =
    finds_again c.args.connection c.in-Ok-open_files.again c.in-Ok.files c.in-Ok.ensures.copied (c.in-Ok-open_files.ensures.found clean)
