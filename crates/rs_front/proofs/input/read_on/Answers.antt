use Rattle.std.proofs.Common.{◌++◌, arith, refl, ap, ◌∙◌, Ok, sym, inr}
use Rattle.rs_face.proofs.Cited.{Consumes-trans}
use Rattle.rs_request.specs.Laws.{fed_at}
use Rattle.rs_request.specs.Readers.{fed_count}
use Rattle.rs_front.proofs.InputLemmas.{read_more, lazy_more, came_message, came_nothing, came_end, waits, waits_short, piece_counted, count_of, nearer, consumed_still}
use Rattle.rs_front.proofs.input.read_on.Goals as goal

pub returns-in-Ok-Message-clause-reads : goal.returns-in-Ok-Message-clause-reads
returns-in-Ok-Message-clause-reads g c = λ place bytes told stands.
    let so_far = c.reading.invariant.so_far place bytes told stands in
    let came = c.in-Ok-Message.ensures.answer (fed_at place (bytes ++ so_far.read) told) so_far.stands in
    came_message c.one_division.ensures.next place bytes told _ _ so_far.read _ so_far.consumed so_far.lazy (came.0 ∙ ap Ok c.in-Ok-Message.field-0-is) came.1

pub fill-requires : goal.fill-requires
fill-requires g c =
    let (place, bytes, told, stands) = c.requires.reading in
    let so_far = c.reading.invariant.so_far place bytes told stands in
    let came = c.in-Ok-More.ensures.answer (fed_at place (bytes ++ so_far.read) told) so_far.stands in
    let short = waits_short c.unfinished_requests.ensures.short place bytes told _ _ _ _ stands so_far (came.0 ∙ ap Ok c.in-Ok-More.field-0-is) came.1 in
    let room = c.requires.room in
    record { room = omega (arith, short, room) }

pub reading-smaller : goal.reading-smaller
reading-smaller g c =
    let (place, bytes, told, stands) = c.requires.reading in
    let so_far = c.reading.invariant.so_far place bytes told stands in
    let came = c.in-Ok-More.ensures.answer (fed_at place (bytes ++ so_far.read) told) so_far.stands in
    let short = waits_short c.unfinished_requests.ensures.short place bytes told _ _ _ _ stands so_far (came.0 ∙ ap Ok c.in-Ok-More.field-0-is) came.1 in
    let still = waits place (bytes ++ so_far.read) told _ (came.0 ∙ ap Ok c.in-Ok-More.field-0-is) came.1 in
    let filled = c.in-More.ensures.filled (fed_at place (bytes ++ so_far.read) told) still.1 in
    let counted = piece_counted place (bytes ++ so_far.read) told _ _ filled.piece still.1 filled.brings.0 in
    let before = count_of _ (fed_at place (bytes ++ so_far.read) told) so_far.stands in
    let mid = count_of _ (fed_at place (bytes ++ so_far.read) told) still.1 in
    nearer (fed_count c.args.reader.now) (fed_count c.reading.reader) (fed_count c.next.new.self) (fed_count c.fill.new.reader) filled.piece (mid ∙ sym before) short counted filled.brings.1

pub reading-preserved : goal.reading-preserved
reading-preserved g c =
    let (place, bytes, told, stands) = c.requires.reading in
    let so_far = c.reading.invariant.so_far place bytes told stands in
    let came = c.in-Ok-More.ensures.answer (fed_at place (bytes ++ so_far.read) told) so_far.stands in
    let short = waits_short c.unfinished_requests.ensures.short place bytes told _ _ _ _ stands so_far (came.0 ∙ ap Ok c.in-Ok-More.field-0-is) came.1 in
    let count = c.fill.ensures.count in
    let before = c.reading.invariant.later in
    let after = c.fill.ensures.later in
    record {
      so_far = λ place bytes told stands.
          let so_far = c.reading.invariant.so_far place bytes told stands in
          let came = c.in-Ok-More.ensures.answer (fed_at place (bytes ++ so_far.read) told) so_far.stands in
          let still = waits place (bytes ++ so_far.read) told _ (came.0 ∙ ap Ok c.in-Ok-More.field-0-is) came.1 in
          let filled = c.in-More.ensures.filled (fed_at place (bytes ++ so_far.read) told) still.1 in
          read_more place bytes told _ _ _ _ _ filled.piece so_far filled.consumed still.0 filled.room filled.brings.0;
      count = omega (arith, short, count);
      later = omega (arith, before, after);
    }

pub returns-in-End-clause-reads : goal.returns-in-End-clause-reads
returns-in-End-clause-reads g c = λ place bytes told stands.
    let so_far = c.reading.invariant.so_far place bytes told stands in
    let came = c.in-Ok-More.ensures.answer (fed_at place (bytes ++ so_far.read) told) so_far.stands in
    let still = waits place (bytes ++ so_far.read) told _ (came.0 ∙ ap Ok c.in-Ok-More.field-0-is) came.1 in
    let filled = c.in-End.ensures.filled (fed_at place (bytes ++ so_far.read) told) still.1 in
    came_end place bytes told _ _ so_far.read _ _ (consumed_still _ _ _ so_far.read filled.piece so_far.consumed filled.consumed filled.brings.1) so_far.lazy still.0 filled.brings.2 refl
    (c.end_of.ensures.end (fed_at place (bytes ++ so_far.read) told) filled.brings.0)

pub returns-in-End-clause-count : goal.returns-in-End-clause-count
returns-in-End-clause-count g c =
    let (place, bytes, told, stands) = c.requires.reading in
    let so_far = c.reading.invariant.so_far place bytes told stands in
    let came = c.in-Ok-More.ensures.answer (fed_at place (bytes ++ so_far.read) told) so_far.stands in
    let short = waits_short c.unfinished_requests.ensures.short place bytes told _ _ _ _ stands so_far (came.0 ∙ ap Ok c.in-Ok-More.field-0-is) came.1 in
    let count = c.fill.ensures.count in
    omega (arith, short, count)

pub returns-in-Failed-clause-count : goal.returns-in-Failed-clause-count
returns-in-Failed-clause-count g c =
    let (place, bytes, told, stands) = c.requires.reading in
    let so_far = c.reading.invariant.so_far place bytes told stands in
    let came = c.in-Ok-More.ensures.answer (fed_at place (bytes ++ so_far.read) told) so_far.stands in
    let short = waits_short c.unfinished_requests.ensures.short place bytes told _ _ _ _ stands so_far (came.0 ∙ ap Ok c.in-Ok-More.field-0-is) came.1 in
    let count = c.fill.ensures.count in
    omega (arith, short, count)

pub returns-in-NoMemory-clause-reads : goal.returns-in-NoMemory-clause-reads
returns-in-NoMemory-clause-reads g c = λ place bytes told stands.
    let so_far = c.reading.invariant.so_far place bytes told stands in
    let came = c.in-Ok-More.ensures.answer (fed_at place (bytes ++ so_far.read) told) so_far.stands in
    let still = waits place (bytes ++ so_far.read) told _ (came.0 ∙ ap Ok c.in-Ok-More.field-0-is) came.1 in
    let filled = c.in-NoMemory.ensures.filled (fed_at place (bytes ++ so_far.read) told) still.1 in
    came_nothing place bytes told _ _ (so_far.read ++ filled.piece) (Consumes-trans _ _ _ so_far.read filled.piece so_far.consumed filled.consumed)
    (inr (lazy_more place bytes told so_far.read filled.piece still.0 filled.room))

pub returns-in-NoMemory-clause-count : goal.returns-in-NoMemory-clause-count
returns-in-NoMemory-clause-count g c =
    let (place, bytes, told, stands) = c.requires.reading in
    let so_far = c.reading.invariant.so_far place bytes told stands in
    let came = c.in-Ok-More.ensures.answer (fed_at place (bytes ++ so_far.read) told) so_far.stands in
    let short = waits_short c.unfinished_requests.ensures.short place bytes told _ _ _ _ stands so_far (came.0 ∙ ap Ok c.in-Ok-More.field-0-is) came.1 in
    let count = c.fill.ensures.count in
    omega (arith, short, count)
