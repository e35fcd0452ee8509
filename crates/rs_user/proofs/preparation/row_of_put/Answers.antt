use Rattle.std.proofs.Common.{◌≡◌, Some, Ok, rules}
use Rattle.rs_record.specs.declared.records.Record.TheVariants.{Put}
use Rattle.rs_record.specs.declared.records.Record.{Record}
use Rattle.rs_record.specs.Rows.{spelling}
use Rattle.rs_record.specs.RowReadings.{record_reading}
use Rattle.rs_user.proofs.PreparationLemmas.{put_is_record}
use Rattle.rs_user.proofs.preparation.row_of_put.Goals as goal

pub returns : goal.returns
returns c =
    let call = c.args.call.now in
    let writer = c.args.writer in
    let what : Record = Put call.path call.kind call.body (Some writer) in
    let back : record_reading (spelling what) ≡ Ok what =
    c.row_laws.ensures.back what (put_is_record call.path call.kind call.body writer c.look_at.ensures.parts c.requires.document c.requires.short) in
    search (rules, back)
