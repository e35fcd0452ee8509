use Rattle.std.proofs.Common.{◌≡◌, ◌&&◌, ℕ, List, [], ◌∷◌, length, Bool, true, false, not, Option, Some, None, Bor, option_copied, refl, sym, arith}
use borrow.Author.Tests.{eqb-true}
use Rattle.std.specs.Option.{is_some}
use Rattle.rs_path.specs.Paths.{is_nil}
use Rattle.rs_path.specs.Readings.{rest_parts}
use Rattle.rs_path.proofs.ReadingLemmas.{is_nil-slice_split}
use Rattle.rs_path.proofs.reading.ends_folder.Goals as goal

-- nothing follows where there are no further segments
none_left : (more : Option (Bor (List ℕ))) (none : Bool) → is_some more ≡ not none → none ≡ is_nil (rest_parts (option_copied more))
none_left None true told = refl
none_left None false told = absurd (cc)
none_left (Some rest) true told = absurd (cc)
none_left (Some rest) false told = sym (is_nil-slice_split rest.now)

at_end : (segment : List ℕ) (more : Option (Bor (List ℕ))) (none : Bool) → length segment ≡ 0 → is_some more ≡ not none
    → none ≡ (is_nil segment && is_nil (rest_parts (option_copied more)))
at_end [] more none empty told = none_left more none told
at_end (byte ∷ segment) more none empty told = absurd (omega arith)

pub returns-then-is_empty : goal.returns-then-is_empty
returns-then-is_empty c =
    at_end c.args.segment.now c.args.more c.is_none.result (eqb-true _ _ (sym c.if-is_empty.ensures)) c.is_none.ensures
