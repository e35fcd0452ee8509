use Rattle.std.proofs.Common.{◌≡◌, ◌+◌, ◌++◌, List, ℕ, length, sym, ap, ◌∙◌, subst, arith, length-append}
use Rattle.std.proofs.lemmas.Result.{on_ok_weaker, on_err_weaker}
use Rattle.rs_request.specs.declared.reader.Stage.{Stage}
use Rattle.rs_request.specs.Readings.{Fed, fed_with}
use Rattle.rs_request.specs.Readers.{Stands, IsFed, fed_count}
use Rattle.rs_request.proofs.StandsLemmas.{grown}
use Rattle.rs_request.proofs.reader.RequestReader.feed.Goals as goal

pub returns-then-not-is_empty-clause-ok : goal.returns-then-not-is_empty-clause-ok
unfolding Stands fed_count
returns-then-not-is_empty-clause-ok c fed f =
    let r = c.args.self.now in
    let piece = c.args.piece.now in
    on_ok_weaker c.append.result
    (λ (e : c.append.new.self ≡ r.buffer ++ piece). subst (λ (xs : List ℕ). IsFed r.stage r.taken xs (fed_with fed piece)) (sym e) (grown r.stage r.taken r.buffer fed piece f c.requires))
    c.append.ensures.ok

pub returns-in-Body-clause-ok : goal.returns-in-Body-clause-ok
unfolding Stands
returns-in-Body-clause-ok c fed f =
    let r = c.args.self.now in
    c.feed_body.ensures.ok fed (subst (λ (s : Stage). IsFed s r.taken r.buffer fed) (sym c.replace.ensures.value ∙ c.in-Body.is) f)

pub returns-in-Body-clause-err : goal.returns-in-Body-clause-err
unfolding Stands
returns-in-Body-clause-err c fed f =
    let r = c.args.self.now in
    c.feed_body.ensures.err fed (subst (λ (s : Stage). IsFed s r.taken r.buffer fed) (sym c.replace.ensures.value ∙ c.in-Body.is) f)

pub returns-in_default : goal.returns-in_default
unfolding Stands fed_count
returns-in_default c =
    let r = c.args.self.now in
    let piece = c.args.piece.now in
    let stage = c.replace.result in
    let here : (fed : Fed) → IsFed r.stage r.taken r.buffer fed → IsFed stage r.taken r.buffer fed
    = λ fed f. subst (λ (s : Stage). IsFed s r.taken r.buffer fed) (sym c.replace.ensures.value) f in
    let added = length-append r.buffer piece in
    record {
      ok = λ fed f. on_ok_weaker c.append-in_default.result
          (λ (e : c.append-in_default.new.self ≡ r.buffer ++ piece). subst (λ (xs : List ℕ). IsFed stage r.taken xs (fed_with fed piece)) (sym e) (grown stage r.taken r.buffer fed piece (here fed f) c.requires))
          c.append-in_default.ensures.ok;
      err = λ fed f. on_err_weaker c.append-in_default.result
          (λ (e : c.append-in_default.new.self ≡ r.buffer). subst (λ (xs : List ℕ). IsFed stage r.taken xs fed) (sym e) (here fed f))
          c.append-in_default.ensures.err;
      count = on_ok_weaker c.append-in_default.result
          (λ (e : c.append-in_default.new.self ≡ r.buffer ++ piece). let l = ap length e in omega (arith, l, added))
          c.append-in_default.ensures.ok;
      same_count = on_err_weaker c.append-in_default.result
          (λ (e : c.append-in_default.new.self ≡ r.buffer). ap (λ xs. r.taken + length xs) e)
          c.append-in_default.ensures.err;
    }
