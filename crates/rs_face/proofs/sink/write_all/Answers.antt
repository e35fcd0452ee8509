use Rattle.std.proofs.Common.{◌≡◌, ℕ, List, length, ◌-◌, ◌++◌, ◌∙◌, append_assoc, take, drop, take-append-drop}
use Rattle.std.proofs.lemmas.List.{take_rest}
use Rattle.std.proofs.lemmas.Result.{err_from_is_err_and}
use Rattle.rs_face.proofs.ToldLemmas.{Appends-trans, AppendsFront-after, AppendsFront-kept, StaysTold-trans}
use Rattle.rs_face.proofs.sink.write_all.Goals as goal

moves_front : (all front rest : List ℕ) (count : ℕ) → all ≡ front ++ rest → all ≡ (front ++ take count rest) ++ take (length rest - count) (drop count rest)
moves_front all front rest count split = rw (take_rest, append_assoc, take-append-drop) split

pub returns-in_err-count-clause-err : goal.returns-in_err-count-clause-err
returns-in_err-count-clause-err g c =
    let p = err_from_is_err_and c.from_residual.result c.from_residual.ensures.1 in
    let (front, split, wrote) = c.loop-rest.invariant.wrote in
    rw (p.1, split) (AppendsFront-after _ _ _ front _ wrote (AppendsFront-kept _ _ _ c.in_err-count.ensures.bytes))

pub loop-rest-preserved : goal.loop-rest-preserved
loop-rest-preserved g c =
    let (front, split, wrote) = c.loop-rest.invariant.wrote in
    let rest = c.loop-rest.rest.now in
    let count = c.in_ok-count.count in
    record {
      wrote = (front ++ take count rest, moves_front _ front rest count split, Appends-trans _ _ _ _ _ wrote c.in_ok-count.ensures.bytes);
      told = StaysTold-trans _ _ _ c.loop-rest.invariant.told c.in_ok-count.ensures.told;
      quiet = c.in_ok-count.ensures.quiet ∙ c.loop-rest.invariant.quiet;
      content = c.in_ok-count.ensures.content ∙ c.loop-rest.invariant.content;
    }
