use Rattle.std.proofs.Common.{◌≡◌, ℕ, Bool, List, Result, sym, ap, ◌∙◌}
use Rattle.rs_request.specs.declared.fault.WireWhy.{WireWhy}
use Rattle.rs_request.specs.declared.field.Field.{Field}
use Rattle.rs_request.specs.declared.framing.Framing.{Framing}
use Rattle.rs_reply.specs.declared.reply.ReplyHead.{ReplyHead}
use Rattle.rs_request.specs.Framing.{stated}
use Rattle.rs_reply.specs.Replies.{reply_body, reply_framing}
use Rattle.rs_reply.specs.Writing.{has_no_body}
use Rattle.rs_reply.proofs.ReplySteps.{reply_no_head, reply_unframed, reply_no_body, reply_unended, reply_whole}
use Rattle.rs_reply.proofs.reply.whole_reply.Goals as goal

-- what the head states of the framing
framing_of : (h : ReplyHead) (r f : Result Framing WireWhy) (list : List Field) → list ≡ h.fields → r ≡ stated list → r ≡ f → stated h.fields ≡ f
framing_of h r f list same found is = ap stated (sym same) ∙ sym found ∙ is

-- the body of the framing that counts
body_of : (bodiless : Bool) (bytes : List ℕ) (h : ReplyHead) (framing used : Framing) (none : Bool) (r b : Result (List ℕ × ℕ) ℕ)
    → none ≡ has_no_body bodiless h.status → used ≡ reply_framing none framing → r ≡ reply_body bytes h.end used → r ≡ b
    → reply_body bytes h.end (reply_framing (has_no_body bodiless h.status) framing) ≡ b
body_of bodiless bytes h framing used none r b e u found is =
    ap (λ (n : Bool). reply_body bytes h.end (reply_framing n framing)) (sym e) ∙ ap (reply_body bytes h.end) (sym u) ∙ sym found ∙ is

pub returns-in-Err : goal.returns-in-Err
returns-in-Err c = sym (reply_no_head c.args.bodiless c.args.bytes.now c.in-Err.place (sym c.in_ok-place.ensures.found ∙ c.in-Err.is))

pub returns-in-Err-stated : goal.returns-in-Err-stated
returns-in-Err-stated c =
    sym (reply_unframed c.args.bodiless c.args.bytes.now c.in-Ok.head c.in-Err-stated.field-0 (sym c.in_ok-place.ensures.found ∙ c.in-Ok.is)
    (framing_of c.in-Ok.head c.stated.result _ c.as_slice.result.now c.as_slice.ensures.fields c.stated.ensures c.in-Err-stated.is))

pub returns-in-Err-2 : goal.returns-in-Err-2
returns-in-Err-2 c =
    sym (reply_no_body c.args.bodiless c.args.bytes.now c.in-Ok.head c.in-Ok-stated.framing c.in-Err-2.place (sym c.in_ok-place.ensures.found ∙ c.in-Ok.is)
    (framing_of c.in-Ok.head c.stated.result _ c.as_slice.result.now c.as_slice.ensures.fields c.stated.ensures c.in-Ok-stated.is)
    (body_of c.args.bodiless c.args.bytes.now c.in-Ok.head c.in-Ok-stated.framing c.reply_framing-framing.result c.has_no_body.result c.in_ok-place-in-Ok-stated.field-0 _
    c.has_no_body.ensures c.reply_framing-framing.ensures c.in_ok-place-in-Ok-stated.ensures c.in-Err-2.is))

pub returns-then-end-bytes : goal.returns-then-end-bytes
returns-then-end-bytes c =
    sym (reply_unended c.args.bodiless c.args.bytes.now c.in-Ok.head c.in-Ok-stated.framing c.in-Ok-2.body c.in-Ok-2.end (sym c.in_ok-place.ensures.found ∙ c.in-Ok.is)
    (framing_of c.in-Ok.head c.stated.result _ c.as_slice.result.now c.as_slice.ensures.fields c.stated.ensures c.in-Ok-stated.is)
    (body_of c.args.bodiless c.args.bytes.now c.in-Ok.head c.in-Ok-stated.framing c.reply_framing-framing.result c.has_no_body.result c.in_ok-place-in-Ok-stated.field-0 _
    c.has_no_body.ensures c.reply_framing-framing.ensures c.in_ok-place-in-Ok-stated.ensures c.in-Ok-2.is)
    c.if-end-bytes.true)

pub returns-else-end-bytes : goal.returns-else-end-bytes
returns-else-end-bytes c =
    sym (reply_whole c.args.bodiless c.args.bytes.now c.in-Ok.head c.in-Ok-stated.framing c.in-Ok-2.body c.in-Ok-2.end (sym c.in_ok-place.ensures.found ∙ c.in-Ok.is)
    (framing_of c.in-Ok.head c.stated.result _ c.as_slice.result.now c.as_slice.ensures.fields c.stated.ensures c.in-Ok-stated.is)
    (body_of c.args.bodiless c.args.bytes.now c.in-Ok.head c.in-Ok-stated.framing c.reply_framing-framing.result c.has_no_body.result c.in_ok-place-in-Ok-stated.field-0 _
    c.has_no_body.ensures c.reply_framing-framing.ensures c.in_ok-place-in-Ok-stated.ensures c.in-Ok-2.is)
    c.if-end-bytes.false)
