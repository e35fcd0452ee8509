use Rattle.std.proofs.Common.{◌≡◌, ◌++◌, take}
use Rattle.std.specs.List.{flat_map}
use Rattle.rs_folder.specs.FolderTokens.{entry_tokens}
use Rattle.rs_folder.proofs.writing.put_items.Given as goal

abbrev pub invariant-loop-entry : goal.invariant-loop-entry
invariant-loop-entry l = record {
  before : l.writer.before ≡ l.fn.writer.before;
  tokens : l.writer.tokens ≡ l.fn.writer.tokens ++ flat_map entry_tokens (take l.entry-index l.entries);
}
