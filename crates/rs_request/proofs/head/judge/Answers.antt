use Rattle.std.proofs.Common.{length, Err, Ok, sym, ap, ◌∙◌}
use Rattle.rs_request.specs.Framing.{head_framing}
use Rattle.rs_request.proofs.HeadLemmas.{judged_many, judged_parts}
use Rattle.rs_request.proofs.head.judge.Goals as goal

pub returns-then-spans-gt-MAX_FIELDS : goal.returns-then-spans-gt-MAX_FIELDS
returns-then-spans-gt-MAX_FIELDS c =
    sym (judged_many c.args.text.now c.args.room.now c.args.spans.now c.requires c.args.place c.if-spans-gt-MAX_FIELDS.true)

pub returns-in-Err : goal.returns-in-Err
returns-in-Err c =
    let spans = c.args.spans.now in
    let fields = c.in_ok-fields.fields in
    let target = c.of-target.ensures in
    let all = c.as_slice.ensures.fields in
    let e = sym c.in-Err.is ∙ c.head_framing.ensures ∙ (λ i. head_framing spans.version (length (target i)) (all i)) in
    sym (judged_parts c.args.text.now c.args.room.now spans c.requires c.args.place fields (Err c.in-Err.why)
    c.if-spans-gt-MAX_FIELDS.false c.in_ok-fields.ensures e)

pub returns-in_ok-begun-in-Ok : goal.returns-in_ok-begun-in-Ok
returns-in_ok-begun-in-Ok c =
    let spans = c.args.spans.now in
    let fields = c.in_ok-fields.fields in
    let target = c.of-target.ensures in
    let all = c.as_slice.ensures.fields in
    let e = sym c.in-Ok.is ∙ c.head_framing.ensures ∙ (λ i. head_framing spans.version (length (target i)) (all i)) in
    ap Ok c.in_ok-begun-in-Ok.ensures ∙ sym (judged_parts c.args.text.now c.args.room.now spans c.requires c.args.place fields (Ok c.in-Ok.framing)
    c.if-spans-gt-MAX_FIELDS.false c.in_ok-fields.ensures e)
