use Rattle.std.proofs.Common.{◌+◌, ◌^◌, ◌-◌, min, length, sym, ap, ◌∙◌, subst}
use Rattle.std.specs.List.{list_all}
use Rattle.rs_request.specs.declared.reader.Stage.{Stage}
use Rattle.rs_request.specs.Lines.{is_break}
use Rattle.rs_request.specs.Readers.{Stands, IsFed}
use Rattle.rs_request.proofs.StandsLemmas.{finish_stopped, finish_whole, finish_cut, end_place}
use Rattle.rs_request.proofs.reader.RequestReader.finish.Goals as goal

pub returns-in-Stopped : goal.returns-in-Stopped
unfolding Stands
returns-in-Stopped c fed f =
    let here = subst (λ (s : Stage). IsFed s c.args.self.now.taken c.args.self.now.buffer fed) c.in-Stopped.is f in
    sym (finish_stopped fed c.in-Stopped.field-0 here.stands)

pub returns-in-Body : goal.returns-in-Body
unfolding Stands
returns-in-Body c fed f =
    let r = c.args.self.now in
    let here = subst (λ (s : Stage). IsFed s r.taken r.buffer fed) c.in-Body.is f in
    let end = end_place r.stage r.taken r.buffer fed c.saturating_add-end.result f (c.saturating_add-end.ensures ∙ ap (λ xs. min (r.taken + length xs) (2 ^ 64 - 1)) c.as_slice-bytes.ensures.bytes) in
    sym (finish_cut fed c.saturating_add-end.result here.stands.whole here.stands.some end)

pub returns-then-are_breaks : goal.returns-then-are_breaks
unfolding Stands
returns-then-are_breaks c fed f =
    let r = c.args.self.now in
    let here = subst (λ (s : Stage). IsFed s r.taken r.buffer fed) c.in-Head.is f in
    sym (finish_whole fed here.stands.whole (ap (list_all is_break) (here.stands.bytes ∙ sym c.as_slice-bytes.ensures.bytes) ∙ sym c.are_breaks.ensures ∙ c.if-are_breaks.true))

pub returns-else-are_breaks : goal.returns-else-are_breaks
unfolding Stands
returns-else-are_breaks c fed f =
    let r = c.args.self.now in
    let here = subst (λ (s : Stage). IsFed s r.taken r.buffer fed) c.in-Head.is f in
    let end = end_place r.stage r.taken r.buffer fed c.saturating_add-end.result f (c.saturating_add-end.ensures ∙ ap (λ xs. min (r.taken + length xs) (2 ^ 64 - 1)) c.as_slice-bytes.ensures.bytes) in
    sym (finish_cut fed c.saturating_add-end.result here.stands.whole (ap (list_all is_break) (here.stands.bytes ∙ sym c.as_slice-bytes.ensures.bytes) ∙ sym c.are_breaks.ensures ∙ c.if-are_breaks.false) end)
