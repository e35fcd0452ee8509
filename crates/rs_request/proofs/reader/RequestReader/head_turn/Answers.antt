use Rattle.std.proofs.Common.{◌≡◌, false, ℕ, Option, Some, Result, Ok, refl, ◌∙◌, sym, ap, subst}
use Rattle.std.proofs.lemmas.Result.{IfOk-at_ok}
use Rattle.rs_request.specs.declared.fault.WireWhy.{WireWhy}
use Rattle.rs_request.specs.declared.head.Begun.{Begun}
use Rattle.rs_request.specs.declared.reader.Opened.{Opened}
use Rattle.rs_request.specs.declared.reader.Stage.TheVariants.{Head, Body}
use Rattle.rs_request.specs.declared.reader.RequestReader.{RequestReader}
use Rattle.rs_request.specs.RequestHeads.{head_at, IsHeadWithin}
use Rattle.rs_request.specs.Bodies.{fault_at}
use Rattle.rs_request.specs.Readings.{more}
use Rattle.rs_request.specs.Readers.{Stands}
use Rattle.rs_request.proofs.StandsLemmas.{turned, head_waits, head_fails, head_sought, head_opens, stopped, turns_fault, finds, skipped}
use Rattle.rs_request.proofs.reader.RequestReader.head_turn.Goals as goal

abbrev Found : Type 0
Found = Option (Result (Begun × ℕ) WireWhy)

pub returns-in-Err-clause-answer : goal.returns-in-Err-clause-answer
unfolding Stands
returns-in-Err-clause-answer c fed f =
    let taken = c.args.self.now.taken in
    let left = c.args.self.now.buffer in
    let h = finds c.args.search c.head_at-found.new.search taken c.as_slice.result.now left c.head_at-found.result c.as_slice.ensures.bytes
    c.head_at-found.ensures.found c.head_at-found.ensures.kept c.head_at-found.ensures.within f.stands.sought in
    head_sought c.args.search c.head_at-found.new.search taken left fed f h.kept

pub returns-in-Ok-None-clause-answer : goal.returns-in-Ok-None-clause-answer
unfolding Stands
returns-in-Ok-None-clause-answer c fed f =
    let taken = c.args.self.now.taken in
    let left = c.args.self.now.buffer in
    let h = finds c.args.search c.head_at-found.new.search taken c.as_slice.result.now left c.head_at-found.result c.as_slice.ensures.bytes
    c.head_at-found.ensures.found c.head_at-found.ensures.kept c.head_at-found.ensures.within f.stands.sought in
    let is = c.in-Ok-None.is ∙ ap Ok c.in-Ok-None.field-0-is in
    let e = sym (IfOk-at_ok (λ (h : Found). h ≡ head_at taken left) is h.found) in
    turned fed _ more (head_waits c.args.search taken left fed f.stands e)
    (head_sought c.args.search c.head_at-found.new.search taken left fed f h.kept)

pub returns-in-Ok-Some-Err-clause-answer : goal.returns-in-Ok-Some-Err-clause-answer
unfolding Stands
returns-in-Ok-Some-Err-clause-answer c fed f =
    let taken = c.args.self.now.taken in
    let left = c.args.self.now.buffer in
    let h = finds c.args.search c.head_at-found.new.search taken c.as_slice.result.now left c.head_at-found.result c.as_slice.ensures.bytes
    c.head_at-found.ensures.found c.head_at-found.ensures.kept c.head_at-found.ensures.within f.stands.sought in
    let why = c.in-Ok-Some-Err.why in
    let is = c.in-Ok-Some-Err.is ∙ ap Ok (c.in-Ok-Some-Err.field-0-is ∙ ap Some c.in-Ok-Some-Err.field-0-0-is) in
    let e = sym (IfOk-at_ok (λ (h : Found). h ≡ head_at taken left) is h.found) in
    turns_fault fed c.stop.new.self c.stop.result (fault_at why taken) c.stop.ensures.result
    (head_fails c.args.search taken left fed f.stands why e)
    (subst (λ (r : RequestReader). Stands r (record fed { fault = Some (fault_at why taken) })) (sym c.stop.ensures.stage)
    (stopped (Head c.args.search) taken left fed (fault_at why taken) f))

pub returns-in-Ok-Some-Ok-clause-answer : goal.returns-in-Ok-Some-Ok-clause-answer
unfolding Stands
returns-in-Ok-Some-Ok-clause-answer c fed f =
    let taken = c.args.self.now.taken in
    let left = c.args.self.now.buffer in
    let h = finds c.args.search c.head_at-found.new.search taken c.as_slice.result.now left c.head_at-found.result c.as_slice.ensures.bytes
    c.head_at-found.ensures.found c.head_at-found.ensures.kept c.head_at-found.ensures.within f.stands.sought in
    let n = c.in-Ok-Some-Ok.count in
    let is = c.in-Ok-Some-Ok.is ∙ ap Ok (c.in-Ok-Some-Ok.field-0-is ∙ ap Some c.in-Ok-Some-Ok.field-0-0-is) in
    let e = sym (IfOk-at_ok (λ (h : Found). h ≡ head_at taken left) is h.found) in
    let within = IfOk-at_ok (λ (h : Found). IsHeadWithin left h) is h.within in
    let opened : Opened = record { begun = c.in-Ok-Some-Ok.begun; told = false; reader = c.new-reader.result } in
    skipped (Body opened) taken n left fed c.skip.new.self.taken c.skip.new.self.buffer (Head c.args.search) fed f within.1 c.skip.ensures.taken c.skip.ensures.buffer
    (head_opens c.args.search taken n left fed opened f e within.1 refl c.new-reader.ensures.part c.new-reader.ensures.body)
