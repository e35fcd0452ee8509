use Rattle.std.proofs.Common.{◌≡◌, ℕ, ◌≤◌, List, length, take, drop, Option, None, refl, sym, ap, ◌∙◌, subst}
use Rattle.rs_request.specs.Limits.{max_chunk_line}
use Rattle.rs_request.specs.Lines.{first_line}
use Rattle.rs_request.specs.BodyReaders.{IsLineSought}
use Rattle.rs_request.specs.Bodies.{next_part}
use Rattle.rs_request.specs.ChunkTexts.{size_of}
use Rattle.rs_request.proofs.MoveLemmas.{line_sought, line_goes, line_fails, line_long, line_waits, next_fits}
use Rattle.rs_request.proofs.body.BodyReader.line_part.Goals as goal

-- the search's answer is about the bytes of the window
answered : (window rest : List ℕ) (sought : ℕ) (r : Option ℕ) → window ≡ take max_chunk_line rest → IsLineSought sought rest
    → (sought ≤ length window → first_line (take sought window) ≡ None → r ≡ first_line window) → first_line (take max_chunk_line rest) ≡ r
answered window rest sought r e fits found =
    let low = subst (λ (xs : List ℕ). sought ≤ length xs) (sym e) (line_sought sought rest fits).0 in
    sym (found low (ap (λ xs. first_line (take sought xs)) e ∙ (line_sought sought rest fits).1) ∙ ap first_line e)

pub returns-in-Ok-clause-ok : goal.returns-in-Ok-clause-ok
returns-in-Ok-clause-ok c fits =
    let rest = c.args.rest.now in
    let n = c.in-Some.count in
    let found = answered c.window-window.result.now rest c.args.sought c.first_line.result c.window-window.ensures.front fits c.first_line.ensures.found ∙ c.in-Some.is in
    let size = ap (λ l. next_part l (size_of (take n rest))) (sym c.args.self.now.body.ok.0 ∙ sym c.len.ensures) ∙ sym c.next_part.ensures ∙ c.in-Ok.is in
    line_goes c.args.self.now _ c.args.sought c.args.at n c.in-Ok.part rest c.requires refl refl found size (next_fits (length c.args.self.now.body.items) (size_of (take n rest)) c.in-Ok.part (drop n rest) size)

pub returns-in-Err-clause-ok : goal.returns-in-Err-clause-ok
returns-in-Err-clause-ok c fits =
    let rest = c.args.rest.now in
    let n = c.in-Some.count in
    let found = answered c.window-window.result.now rest c.args.sought c.first_line.result c.window-window.ensures.front fits c.first_line.ensures.found ∙ c.in-Some.is in
    line_fails c.args.self.now c.args.sought c.args.at n c.in-Err.why rest c.requires found (ap (λ l. next_part l (size_of (take n rest))) (sym c.args.self.now.body.ok.0 ∙ sym c.len.ensures) ∙ sym c.next_part.ensures ∙ c.in-Err.is)

pub returns-in-None-clause-ok : goal.returns-in-None-clause-ok
returns-in-None-clause-ok c fits =
    let rest = c.args.rest.now in
    let found = answered c.window-window.result.now rest c.args.sought c.first_line.result c.window-window.ensures.front fits c.first_line.ensures.found ∙ c.in-None.is in
    line_waits c.args.self.now _ c.args.sought c.args.at rest c.requires refl refl found c.if-rest-lt-MAX_CHUNK_LINE.true

pub returns-in-None-2-clause-ok : goal.returns-in-None-2-clause-ok
returns-in-None-2-clause-ok c fits =
    let rest = c.args.rest.now in
    let found = answered c.window-window.result.now rest c.args.sought c.first_line.result c.window-window.ensures.front fits c.first_line.ensures.found ∙ c.in-None.is in
    line_long c.args.self.now c.args.sought c.args.at rest c.requires found c.if-rest-lt-MAX_CHUNK_LINE.false
