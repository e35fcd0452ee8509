use Rattle.std.proofs.Common.{◌≡◌, ℕ, ◌++◌, length, drop, [], List, Result, Ok, Some, sym, ap, ◌∙◌, subst, arith}
use Rattle.std.proofs.lemmas.List.{drop_all, append-nil}
use Rattle.httparse.specs.Grammar.{ChunkLine, print_chunk_line, ReadsChunkLine}
use Rattle.httparse.specs.Outcome.{IfComplete, OnPartial}
use Rattle.httparse.specs.Spans.{IsChunkLineAt}
use Rattle.httparse.specs.declared.InvalidChunkSize.{InvalidChunkSize}
use Rattle.httparse.specs.declared.Status.{Status}
use Rattle.httparse.specs.declared.Status.TheVariants.{Complete}
use Rattle.httparse.proofs.ChunkLemmas.{chunk_line_unique}
use Rattle.rs_request.proofs.ChunkLemmas.{size_none, size_some}
use Rattle.rs_request.proofs.chunk.size_of.Goals as goal

at_complete : (r : Result (Status (ℕ × ℕ)) InvalidChunkSize) (v : ℕ × ℕ) (P : ℕ × ℕ → Type 0) → r ≡ Ok (Complete v) → IfComplete r P → P v
at_complete r v P e h = let at : Result (Status (ℕ × ℕ)) InvalidChunkSize → Type 0 = λ r. IfComplete r P in subst at e h

shorter : (line : List ℕ) (len size : ℕ) → ((l : ChunkLine) × IsChunkLineAt line len size l) → (len ≡ length line → ⊥)
    → (k : ChunkLine) → ReadsChunkLine line k [] → ⊥
shorter line len size found other k reads =
    let same = chunk_line_unique line k found.0 [] (drop len line) reads found.1.reads in
    let text = ap length (found.1.reads.1 ∙ ap (λ rest. print_chunk_line found.0 ++ rest) (sym same.1) ∙ append-nil (print_chunk_line found.0)) in
    other (found.1.len_is ∙ sym text)

whole : (line : List ℕ) (len size : ℕ) (l : ChunkLine) → IsChunkLineAt line len size l → len ≡ length line → ReadsChunkLine line l []
whole line len size l at e =
    subst (λ (rest : List ℕ). ReadsChunkLine line l rest) (drop_all len line (omega arith)) at.reads

pub returns-then-len-line : goal.returns-then-len-line
returns-then-len-line c =
    let line = c.args.line.now in
    let is = c.in-Ok-Complete.is ∙ ap Ok c.in-Ok-Complete.field-0-is in
    let found = at_complete c.parse_chunk_size.result (c.in-Ok-Complete.len, c.in-Ok-Complete.size) (λ r. (l : ChunkLine) × IsChunkLineAt line r.0 r.1 l) is c.parse_chunk_size.ensures.complete in
    sym (size_none line (shorter line c.in-Ok-Complete.len c.in-Ok-Complete.size found c.if-len-line.true))

pub returns-else-len-line : goal.returns-else-len-line
returns-else-len-line c =
    let line = c.args.line.now in
    let is = c.in-Ok-Complete.is ∙ ap Ok c.in-Ok-Complete.field-0-is in
    let found = at_complete c.parse_chunk_size.result (c.in-Ok-Complete.len, c.in-Ok-Complete.size) (λ r. (l : ChunkLine) × IsChunkLineAt line r.0 r.1 l) is c.parse_chunk_size.ensures.complete in
    ap Some found.1.size_is ∙ sym (size_some line found.0 (whole line c.in-Ok-Complete.len c.in-Ok-Complete.size found.0 found.1 c.if-len-line.false))

pub returns-in-Ok-Partial : goal.returns-in-Ok-Partial
returns-in-Ok-Partial c =
    let line = c.args.line.now in
    let is = c.in-Ok-Partial.is ∙ ap Ok c.in-Ok-Partial.field-0-is in
    let at : Result (Status (ℕ × ℕ)) InvalidChunkSize → Type 0 = λ r. OnPartial r ((l : ChunkLine) (rest : List ℕ) → ReadsChunkLine line l rest → ⊥) in
    let none = subst at is c.parse_chunk_size.ensures.partial in
    sym (size_none line (λ l. none l []))

pub returns-in-Err : goal.returns-in-Err
returns-in-Err c =
    let line = c.args.line.now in
    let none = c.in-Err.ensures.invalid in
    sym (size_none line (λ l reads. none [] l [] (subst (λ (t : List ℕ). ReadsChunkLine t l []) (sym (append-nil line)) reads)))
