use Rattle.std.proofs.Common.{map, string_bytes, Global}
use Rattle.rs_cli.specs.declared.command.RowsFile.TheVariants as file
use Rattle.rs.proofs.WantLemmas.{runs_wanted, unwanted}
use Rattle.rs.proofs.running.run_words.Goals as goal

pub returns-in-Ok-clause-run : goal.returns-in-Ok-clause-run
returns-in-Ok-clause-run g c =
    let words = map (string_bytes {Z = Global}) c.args.words.now in
    runs_wanted _ _ _ _ _ _ c.in-Ok.command words _ c.in-Ok.ensures.read (c.run_command.ensures.run words c.in-Ok.ensures.read)

pub returns-in-Ok-clause-no_journal : goal.returns-in-Ok-clause-no_journal
returns-in-Ok-clause-no_journal g c unwanted_here =
    c.run_command.ensures.no_journal (unwanted file.Journal c.in-Ok.command (map (string_bytes {Z = Global}) c.args.words.now) c.in-Ok.ensures.read unwanted_here)
