use Rattle.std.proofs.Common.{◌≡◌, ℕ, ◌+◌, ◌-◌, ◌^◌, ◌<◌, ◌≤◌, List, length, take, drop, min, refl, sym, ap, ◌∙◌, arith}
use Rattle.std.proofs.lemmas.List.{take_rest, length-drop}
use Rattle.rs_request.specs.declared.fault.WireWhy.TheVariants.{BadChunk}
use Rattle.rs_request.specs.declared.body.Part.TheVariants.{Data}
use Rattle.rs_request.specs.Bodies.{has_line_end, spoiled, fault_at}
use Rattle.rs_request.proofs.MoveLemmas.{data_waits, data_fails, data_goes}
use Rattle.rs_request.proofs.body.BodyReader.data_part.Goals as goal

few : (n k m : ℕ) → k ≡ min n m → k < n → (k ≤ n) × (k ≤ m) × (m < n + 2)
few n k m e less = (omega arith, omega arith, omega arith)

all_but_end : (n k : ℕ) (rest : List ℕ) → k ≡ min n (length rest) → n ≤ k
    → length (take (length rest - k) (drop k rest)) < 2 → (k ≤ n) × (k ≤ length rest) × (length rest < n + 2)
all_but_end n k rest e all short =
    let l = ap length (take_rest rest k) in
    let d = length-drop k rest in
    (omega arith, omega arith, omega arith)

-- all the bytes are there, and two after them
record IsWhole (n k : ℕ) (rest : List ℕ) : Type 0 where
  same : k ≡ n
  enough : k + 2 ≤ length rest

whole : (n k : ℕ) (rest : List ℕ) → k ≡ min n (length rest) → n ≤ k
    → 2 ≤ length (take (length rest - k) (drop k rest)) → IsWhole n k rest
whole n k rest e all long =
    let l = ap length (take_rest rest k) in
    let d = length-drop k rest in
    record { same = omega arith; enough = omega arith }

-- the place isn't at the end of all numbers
exact : (at k n r : ℕ) → at + n < 2 ^ 64 → k + 2 ≤ n → r ≡ min (at + k) (2 ^ 64 - 1) → at + k ≡ r
exact at k n r room enough e = omega arith

pub returns-then-count-left-clause-ok : goal.returns-then-count-left-clause-ok
returns-then-count-left-clause-ok c room =
    let n = c.args.left in
    let k = c.at_most-count.result in
    let l = few n k (length c.args.rest.now) c.at_most-count.ensures c.if-count-left.true in
    data_waits c.args.self.now _ c.args.at n k c.args.rest.now c.requires refl c.in_ok-put_some.ensures.ok l.0 l.1 l.2

pub returns-then-after-lt2-clause-ok : goal.returns-then-after-lt2-clause-ok
returns-then-after-lt2-clause-ok c room =
    let n = c.args.left in
    let k = c.at_most-count.result in
    let l = all_but_end n k c.args.rest.now c.at_most-count.ensures c.if-count-left.false c.if-after-lt2.true in
    data_waits c.args.self.now _ c.args.at n k c.args.rest.now c.requires refl c.in_ok-put_some.ensures.ok l.0 l.1 l.2

pub returns-then-not-has_line_end-clause-ok : goal.returns-then-not-has_line_end-clause-ok
returns-then-not-has_line_end-clause-ok c room =
    let n = c.args.left in
    let k = c.at_most-count.result in
    let rest = c.args.rest.now in
    let w = whole n k rest c.at_most-count.ensures c.if-count-left.false c.if-after-lt2.false in
    let part = c.requires ∙ ap Data (sym w.same) in
    data_fails c.args.self.now c.args.at k rest part w.enough (ap has_line_end (sym (take_rest rest k)) ∙ sym c.has_line_end.ensures ∙ c.if-not-has_line_end.true)
    ∙ ap (λ place. spoiled (fault_at BadChunk place)) (exact c.args.at k (length rest) c.saturating_add.result room w.enough c.saturating_add.ensures)

pub returns-clause-ok : goal.returns-clause-ok
returns-clause-ok c room =
    let n = c.args.left in
    let k = c.at_most-count.result in
    let rest = c.args.rest.now in
    let w = whole n k rest c.at_most-count.ensures c.if-count-left.false c.if-after-lt2.false in
    let part = c.requires ∙ ap Data (sym w.same) in
    data_goes c.args.self.now _ c.args.at k rest part refl c.in_ok-put_some.ensures.ok w.enough
    (ap has_line_end (sym (take_rest rest k)) ∙ sym c.has_line_end.ensures ∙ c.if-not-has_line_end.false)
