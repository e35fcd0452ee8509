use Rattle.std.proofs.Common.{length, string_bytes, Global, ap}
use Rattle.rs_cli.proofs.FormLemmas.{whole_then, whole_else}
use Rattle.rs_cli.proofs.reading.is_whole.Goals as goal

pub returns-then-count-words : goal.returns-then-count-words
returns-then-count-words c = record {
  whole = whole_then (string_bytes {Z = Global}) c.args.form c.args.words.now c.args.count (length c.row.result.places.now) c.requires.count
      c.if-count-words.true (ap length c.row.ensures.places);
}

pub returns-else-count-words : goal.returns-else-count-words
returns-else-count-words c = record {
  whole = whole_else (string_bytes {Z = Global}) c.args.form c.args.words.now c.args.count c.requires.count c.if-count-words.false;
}
