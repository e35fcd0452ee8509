use Rattle.std.proofs.Common.{◌≡◌, ◌+◌, ◌*◌, ◌≤◌, true, [], length, vec_len}
use Rattle.std.specs.List.{list_all, slice_split}
use Rattle.rs_path.specs.Names.{is_name}
use Rattle.rs_path.specs.Readings.{name_by, segments_reading, is_slash}
use Rattle.rs_path.proofs.reading.read_segments.Given as goal

abbrev pub invariant-segments : goal.invariant-segments
invariant-segments l = record {
  same : segments_reading (name_by l.fn.spelling) 1 [] (slice_split is_slash l.fn.text)
      ≡ segments_reading (name_by l.fn.spelling) l.place l.names.items (slice_split is_slash l.rest);
  named : list_all is_name l.names.items ≡ true;
  few : vec_len l.names ≤ 32;
  near : l.place ≤ 1 + 766 * vec_len l.names;
}

abbrev pub decreases-segments : goal.decreases-segments
decreases-segments l = length l.rest
