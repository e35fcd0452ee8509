use Rattle.std.proofs.Common.{◌≡◌, ◌+◌, true, false, not, ◌&&◌, drop, Some, Ok, refl, ◌∙◌, sym, ap, subst}
use Rattle.std.proofs.lemmas.Result.{IfOk-at_ok, IfErr-at_err}
use Rattle.rs_request.specs.declared.body.Move.{Move}
use Rattle.rs_request.specs.declared.message.Step.TheVariants.{Message}
use Rattle.rs_request.specs.declared.reader.Opened.{Opened}
use Rattle.rs_request.specs.declared.reader.Stage.{Stage}
use Rattle.rs_request.specs.declared.reader.Stage.TheVariants.{Body}
use Rattle.rs_request.specs.declared.reader.RequestReader.{RequestReader}
use Rattle.rs_request.specs.BodyReaders.{IsMove, IsSameBody}
use Rattle.rs_request.specs.Readings.{more, interim, message, with_body, fed_after}
use Rattle.rs_request.specs.Bodies.{unended, ended, spoiled}
use Rattle.rs_request.specs.Readers.{Stands, IsFed}
use Rattle.rs_request.proofs.StandsLemmas.{turned, interim_due, body_due, body_told, body_moved, body_same, body_ended, stopped, turns_fault, advanced, skipped}
use Rattle.rs_request.proofs.reader.RequestReader.body_turn.Goals as goal

pub returns-then-is_interim_due-clause-answer : goal.returns-then-is_interim_due-clause-answer
unfolding Stands
returns-then-is_interim_due-clause-answer c fed f =
    let taken = c.args.self.now.taken in
    let left = c.args.self.now.buffer in
    let opened = c.args.opened in
    let due : (opened.begun.expects && not opened.told) ≡ true = sym c.is_interim_due.ensures ∙ c.if-is_interim_due.true in
    let next : Opened = record { begun = opened.begun; told = true; reader = opened.reader } in
    turned fed _ interim (interim_due opened taken left fed f.stands due) (body_told opened next taken left fed f refl refl refl)

pub returns-in-Err-clause-answer : goal.returns-in-Err-clause-answer
unfolding Stands
returns-in-Err-clause-answer c fed f =
    let taken = c.args.self.now.taken in
    let left = c.args.self.now.buffer in
    let opened = c.args.opened in
    let next : Opened = record { begun = opened.begun; told = opened.told; reader = c.advance.new.self } in
    body_same opened next taken left fed f refl refl (IfErr-at_err (λ _. IsSameBody opened.reader c.advance.new.self) c.in-Err.is c.advance.ensures.err)

pub returns-in-Ok-Wait-clause-answer : goal.returns-in-Ok-Wait-clause-answer
unfolding Stands
returns-in-Ok-Wait-clause-answer c fed f =
    let taken = c.args.self.now.taken in
    let left = c.args.self.now.buffer in
    let opened = c.args.opened in
    let move = advanced opened.reader c.advance.new.self taken c.as_slice.result.now left c.advance.result c.as_slice.ensures.bytes c.advance.ensures.ok f.stands.fits f.small in
    let due : (opened.begun.expects && not opened.told) ≡ false = sym c.is_interim_due.ensures ∙ c.if-is_interim_due.false in
    let next : Opened = record { begun = opened.begun; told = opened.told; reader = c.advance.new.self } in
    let is = c.in-Ok-Wait.is ∙ ap Ok c.in-Ok-Wait.field-0-is in
    let n = c.in-Ok-Wait.count in
    let waits = IfOk-at_ok (λ (m : Move). IsMove opened.reader c.advance.new.self taken left m) is move in
    turned fed _ more (body_due opened taken left fed f.stands unended due waits.1)
    (skipped (Body next) taken n left fed c.skip.new.self.taken c.skip.new.self.buffer (Body opened) fed f waits.0.within c.skip.ensures.taken c.skip.ensures.buffer
    (body_moved opened next taken n left fed f refl refl waits.0))

pub returns-in-Ok-On-clause-answer : goal.returns-in-Ok-On-clause-answer
unfolding Stands
returns-in-Ok-On-clause-answer c fed f =
    let taken = c.args.self.now.taken in
    let left = c.args.self.now.buffer in
    let opened = c.args.opened in
    let move = advanced opened.reader c.advance.new.self taken c.as_slice.result.now left c.advance.result c.as_slice.ensures.bytes c.advance.ensures.ok f.stands.fits f.small in
    let due : (opened.begun.expects && not opened.told) ≡ false = sym c.is_interim_due.ensures ∙ c.if-is_interim_due.false in
    let next : Opened = record { begun = opened.begun; told = opened.told; reader = c.advance.new.self } in
    let is = c.in-Ok-On.is ∙ ap Ok c.in-Ok-On.field-0-is in
    let n = c.in-Ok-On.count in
    let goes = IfOk-at_ok (λ (m : Move). IsMove opened.reader c.advance.new.self taken left m) is move in
    skipped (Body next) taken n left fed c.skip-in-Ok-On.new.self.taken c.skip-in-Ok-On.new.self.buffer (Body opened) fed f goes.0.within
    c.skip-in-Ok-On.ensures.taken c.skip-in-Ok-On.ensures.buffer (body_moved opened next taken n left fed f refl refl goes.0)

pub returns-in-Ok-End-clause-answer : goal.returns-in-Ok-End-clause-answer
unfolding Stands
returns-in-Ok-End-clause-answer c fed f =
    let taken = c.args.self.now.taken in
    let left = c.args.self.now.buffer in
    let opened = c.args.opened in
    let move = advanced opened.reader c.advance.new.self taken c.as_slice.result.now left c.advance.result c.as_slice.ensures.bytes c.advance.ensures.ok f.stands.fits f.small in
    let due : (opened.begun.expects && not opened.told) ≡ false = sym c.is_interim_due.ensures ∙ c.if-is_interim_due.false in
    let is = c.in-Ok-End.is ∙ ap Ok c.in-Ok-End.field-0-is in
    let n = c.in-Ok-End.count in
    let ends = IfOk-at_ok (λ (m : Move). IsMove opened.reader c.advance.new.self taken left m) is move in
    let m = with_body opened.begun.message c.advance.new.self.body.items in
    let t = turned fed (record c.skip-in-Ok-End.new.self { stage = c.start.result }) (message m (taken + n)) (body_due opened taken left fed f.stands (ended c.advance.new.self.body.items (taken + n)) due ends.1)
    (skipped c.start.result taken n left (fed_after fed (message m (taken + n))) c.skip-in-Ok-End.new.self.taken c.skip-in-Ok-End.new.self.buffer (Body opened) fed f ends.0
    c.skip-in-Ok-End.ensures.taken c.skip-in-Ok-End.ensures.buffer
    (subst (λ (s : Stage). IsFed s (taken + n) (drop n left) (fed_after fed (message m (taken + n)))) (sym c.start.ensures) (body_ended opened taken n left fed m f ends.0))) in
    (t.0 ∙ ap (λ x. Ok (Message x)) (sym c.into_message.ensures), t.1)

pub returns-in-Ok-Fault-clause-answer : goal.returns-in-Ok-Fault-clause-answer
unfolding Stands
returns-in-Ok-Fault-clause-answer c fed f =
    let taken = c.args.self.now.taken in
    let left = c.args.self.now.buffer in
    let opened = c.args.opened in
    let move = advanced opened.reader c.advance.new.self taken c.as_slice.result.now left c.advance.result c.as_slice.ensures.bytes c.advance.ensures.ok f.stands.fits f.small in
    let due : (opened.begun.expects && not opened.told) ≡ false = sym c.is_interim_due.ensures ∙ c.if-is_interim_due.false in
    let is = c.in-Ok-Fault.is ∙ ap Ok c.in-Ok-Fault.field-0-is in
    let spoils = IfOk-at_ok (λ (m : Move). IsMove opened.reader c.advance.new.self taken left m) is move in
    turns_fault fed c.stop.new.self c.stop.result c.in-Ok-Fault.fault c.stop.ensures.result
    (body_due opened taken left fed f.stands (spoiled c.in-Ok-Fault.fault) due spoils)
    (subst (λ (r : RequestReader). Stands r (record fed { fault = Some c.in-Ok-Fault.fault })) (sym c.stop.ensures.stage)
    (stopped (Body opened) taken left fed c.in-Ok-Fault.fault f))
