use Rattle.std.proofs.Common.{◌≡◌, ◌+◌, [], length}
use Rattle.std.specs.List.{slice_split}
use Rattle.rs_scope.specs.ScopeReadings.{words_reading, is_space}
use Rattle.rs_scope.proofs.reading.read_words.Given as goal

abbrev pub invariant-words : goal.invariant-words
invariant-words l = record {
  same : words_reading 0 [] (slice_split is_space l.fn.text) ≡ words_reading l.place l.scopes.items (slice_split is_space l.rest);
  whole : l.place + length l.rest ≡ length l.fn.text;
}

abbrev pub decreases-words : goal.decreases-words
decreases-words l = length l.rest
