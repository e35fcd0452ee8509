use Rattle.std.proofs.Common.{Some, ◌∙◌, sym, subst}
use Rattle.rs_request.specs.declared.reader.Stage.{Stage}
use Rattle.rs_request.specs.declared.reader.Stage.TheVariants.{Stopped}
use Rattle.rs_request.specs.declared.reader.RequestReader.{RequestReader}
use Rattle.rs_request.specs.Readers.{Stands, IsFed}
use Rattle.rs_request.proofs.StandsLemmas.{stopped_due, stopped, turns_fault}
use Rattle.rs_request.proofs.reader.RequestReader.turn.Goals as goal

pub returns-in-Head-clause-answer : goal.returns-in-Head-clause-answer
unfolding Stands
returns-in-Head-clause-answer c fed f =
    let is = sym c.replace.ensures.value ∙ c.in-Head.is in
    c.head_turn.ensures.answer fed (subst (λ (s : Stage). IsFed s c.args.self.now.taken c.args.self.now.buffer fed) is f)

pub returns-in-Body-clause-answer : goal.returns-in-Body-clause-answer
unfolding Stands
returns-in-Body-clause-answer c fed f =
    let is = sym c.replace.ensures.value ∙ c.in-Body.is in
    c.body_turn.ensures.answer fed (subst (λ (s : Stage). IsFed s c.args.self.now.taken c.args.self.now.buffer fed) is f)

pub returns-in-Stopped-clause-answer : goal.returns-in-Stopped-clause-answer
unfolding Stands
returns-in-Stopped-clause-answer c fed f =
    let is = sym c.replace.ensures.value ∙ c.in-Stopped.is in
    let here = subst (λ (s : Stage). IsFed s c.args.self.now.taken c.args.self.now.buffer fed) is f in
    let fault = c.in-Stopped.fault in
    turns_fault fed c.stop.new.self c.stop.result fault c.stop.ensures.result (stopped_due fed fault here.stands)
    (subst (λ (r : RequestReader). Stands r (record fed { fault = Some fault })) (sym c.stop.ensures.stage)
    (stopped (Stopped fault) c.args.self.now.taken c.args.self.now.buffer fed fault here))
