use Rattle.std.proofs.Common.{◌≡◌, ℕ, ◌<◌, ◌≤◌, length, min, refl, sym, ap, ◌∙◌, arith}
use Rattle.rs_request.specs.declared.body.Part.TheVariants.{Length}
use Rattle.rs_request.proofs.MoveLemmas.{length_ends, length_waits}
use Rattle.rs_request.proofs.body.BodyReader.length_part.Goals as goal

all_left : (n k m : ℕ) → k ≡ min n m → (k ≡ n → ⊥) → (k ≡ m) × (m < n)
all_left n k m e other = (omega arith, omega arith)

enough : (n k m : ℕ) → k ≡ min n m → k ≡ n → n ≤ m
enough n k m e same = omega arith

pub returns-then-count-left-clause-ok : goal.returns-then-count-left-clause-ok
returns-then-count-left-clause-ok c =
    let k = c.at_most-count.result in
    let rest = c.args.rest.now in
    let same = c.if-count-left.true in
    let part = c.requires ∙ ap Length (sym same) in
    let n = enough c.args.left k (length rest) c.at_most-count.ensures same in
    length_ends c.args.self.now (record c.args.self.now { body = c.put_some.new.list }) c.args.at k rest part
    c.in_ok-put_some.ensures.ok (omega arith)

pub returns-clause-ok : goal.returns-clause-ok
returns-clause-ok c =
    let n = c.args.left in
    let k = c.at_most-count.result in
    let rest = c.args.rest.now in
    let l = all_left n k (length rest) c.at_most-count.ensures c.if-count-left.false in
    length_waits c.args.self.now _ c.args.at n k rest c.requires refl c.in_ok-put_some.ensures.ok l.0 l.1
