use Rattle.std.proofs.Common.{◌≡◌, ◌+◌, ◌-◌, ◌++◌, ◌<◌, ◌^◌, min, ℕ, List, length, Result, Ok, Err, OnErr, refl, sym, ap, ◌∙◌, subst, arith}
use Rattle.std.proofs.lemmas.Result.{on_ok_weaker, on_err_weaker}
use Rattle.std.proofs.Math.Seq.{drop-length}
use Rattle.rs_request.specs.declared.reader.Opened.{Opened}
use Rattle.rs_request.specs.declared.reader.Stage.TheVariants.{Body}
use Rattle.rs_request.specs.Readings.{fed_with}
use Rattle.rs_request.specs.Readers.{Stands, IsFed, fed_count}
use Rattle.rs_request.proofs.StandsLemmas.{body_moved, body_same, grown, skipped}
use Rattle.rs_request.proofs.reader.RequestReader.feed_body.Goals as goal

-- what holds anyway holds where there is an error
on_err : {T E : Type 0} (r : Result T E) (X : Type 0) → X → OnErr r X
on_err (Ok value) X x = tt
on_err (Err fault) X x = x

-- a sum that isn't at the end of all numbers
whole : (taken n result : ℕ) → result ≡ min (taken + n) (2 ^ 64 - 1) → taken + n < 2 ^ 64 → result ≡ taken + n
whole taken n result is small = omega (arith, is, small)

pub returns-in_err-took-clause-err : goal.returns-in_err-took-clause-err
unfolding Stands
returns-in_err-took-clause-err c fed f =
    let opened = c.args.opened in
    let next : Opened = record { begun = opened.begun; told = opened.told; reader = c.take_whole-took.new.self } in
    on_err c.from_residual.result _ (body_same opened next c.args.self.now.taken c.args.self.now.buffer fed f refl refl c.in_err-took.ensures.err)

pub returns-then-branch-clause-ok : goal.returns-then-branch-clause-ok
unfolding Stands fed_count
returns-then-branch-clause-ok c fed f =
    let r = c.args.self.now in
    let piece = c.args.piece.now in
    let n = length piece in
    let opened = c.args.opened in
    let next : Opened = record { begun = opened.begun; told = opened.told; reader = c.take_whole-took.new.self } in
    let moves = c.in_ok-took.ensures.took (ap Ok c.if-branch.true) r.taken in
    let fed' = fed_with fed piece in
    let f' : IsFed (Body opened) r.taken piece fed' = subst (λ (xs : List ℕ). IsFed (Body opened) r.taken (xs ++ piece) fed') c.requires.empty (grown (Body opened) r.taken r.buffer fed piece f c.requires.few) in
    skipped (Body next) r.taken n piece fed' c.saturating_add-self.result r.buffer (Body opened) fed' f' moves.within
    (whole r.taken n c.saturating_add-self.result c.saturating_add-self.ensures)
    (c.requires.empty ∙ sym (drop-length piece))
    (body_moved opened next r.taken n piece fed' f' refl refl moves)

pub returns-clause-ok : goal.returns-clause-ok
unfolding Stands fed_count
returns-clause-ok c fed f =
    let r = c.args.self.now in
    let piece = c.args.piece.now in
    let opened = c.args.opened in
    let next : Opened = record { begun = opened.begun; told = opened.told; reader = c.take_whole-took.new.self } in
    let same = c.in_ok-took.ensures.other (ap Ok c.if-branch.false) in
    let here = body_same opened next r.taken r.buffer fed f refl refl same in
    on_ok_weaker c.append.result
    (λ (e : c.append.new.self ≡ r.buffer ++ piece). subst (λ (xs : List ℕ). IsFed (Body next) r.taken xs (fed_with fed piece)) (sym e) (grown (Body next) r.taken r.buffer fed piece here c.requires.few))
    c.append.ensures.ok

pub returns-clause-err : goal.returns-clause-err
unfolding Stands
returns-clause-err c fed f =
    let r = c.args.self.now in
    let opened = c.args.opened in
    let next : Opened = record { begun = opened.begun; told = opened.told; reader = c.take_whole-took.new.self } in
    let same = c.in_ok-took.ensures.other (ap Ok c.if-branch.false) in
    on_err_weaker c.append.result
    (λ (e : c.append.new.self ≡ r.buffer). subst (λ (xs : List ℕ). IsFed (Body next) r.taken xs fed) (sym e) (body_same opened next r.taken r.buffer fed f refl refl same))
    c.append.ensures.err
