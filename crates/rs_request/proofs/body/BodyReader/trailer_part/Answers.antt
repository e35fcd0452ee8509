use Rattle.std.proofs.Common.{◌≡◌, ℕ, List, take, Option, refl, sym, ap, ◌∙◌, subst}
use Rattle.rs_request.specs.declared.search.Search.{Search}
use Rattle.rs_request.specs.declared.search.Spot.{Spot}
use Rattle.rs_request.specs.declared.search.Spot.TheVariants.{Fresh}
use Rattle.rs_request.specs.Limits.{max_trailer}
use Rattle.rs_request.specs.Lines.{first_empty_line}
use Rattle.rs_request.specs.Sought.{IsSought}
use Rattle.rs_request.proofs.MoveLemmas.{trailer_ends, trailer_fails, trailer_waits}
use Rattle.rs_request.proofs.body.BodyReader.trailer_part.Goals as goal

-- what the search answered, said of the bytes that the window shows
record IsAnswer (bytes : List ℕ) (after : Search) (r : Option ℕ) : Type 0 where
  found : r ≡ first_empty_line Fresh bytes
  kept : IsSought Fresh after bytes

answered : (window bytes : List ℕ) (before after : Search) (r : Option ℕ) → window ≡ bytes → IsSought Fresh before bytes
    → ((start : Spot) → IsSought start before window → r ≡ first_empty_line start window)
    → ((start : Spot) → IsSought start before window → IsSought start after window) → IsAnswer bytes after r
answered window bytes before after r e sought found kept =
    let here = subst (IsSought Fresh before) (sym e) sought in record {
      found = found Fresh here ∙ ap (first_empty_line Fresh) e;
      kept = subst (IsSought Fresh after) e (kept Fresh here);
    }

pub returns-in-Some-clause-ok : goal.returns-in-Some-clause-ok
returns-in-Some-clause-ok c fits =
    let a = answered c.window-window.result.now (take max_trailer c.args.rest.now) c.args.search c.seek.new.self c.seek.result
    c.window-window.ensures.front fits c.seek.ensures.found c.seek.ensures.kept in
    trailer_ends c.args.self.now c.args.search c.args.at c.in-Some.count c.args.rest.now c.requires (sym a.found ∙ c.in-Some.is)

pub returns-in-None-clause-ok : goal.returns-in-None-clause-ok
returns-in-None-clause-ok c fits =
    let a = answered c.window-window.result.now (take max_trailer c.args.rest.now) c.args.search c.seek.new.self c.seek.result
    c.window-window.ensures.front fits c.seek.ensures.found c.seek.ensures.kept in
    trailer_waits c.args.self.now _ c.args.search c.seek.new.self c.args.at c.args.rest.now c.requires refl refl
    (sym a.found ∙ c.in-None.is) c.if-rest-lt-MAX_TRAILER.true a.kept

pub returns-in-None-2-clause-ok : goal.returns-in-None-2-clause-ok
returns-in-None-2-clause-ok c fits =
    let a = answered c.window-window.result.now (take max_trailer c.args.rest.now) c.args.search c.seek.new.self c.seek.result
    c.window-window.ensures.front fits c.seek.ensures.found c.seek.ensures.kept in
    trailer_fails c.args.self.now c.args.search c.args.at c.args.rest.now c.requires (sym a.found ∙ c.in-None.is) c.if-rest-lt-MAX_TRAILER.false
