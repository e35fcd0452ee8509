use Rattle.std.proofs.Common.{arith}
use Rattle.rs_request.proofs.LengthLemmas.{length_step}
use Rattle.rs_request.proofs.framing.number.Goals as goal

pub overflow_mul-sum : goal.overflow_mul-sum
overflow_mul-sum c =
    let s = length_step c.args.digits.now c.loop-digit.digit-index c.requires c.loop-digit-test.true in
    omega (arith, s.value, s.small, c.loop-digit.invariant)

pub overflow_sub-digit : goal.overflow_sub-digit
overflow_sub-digit c =
    let s = length_step c.args.digits.now c.loop-digit.digit-index c.requires c.loop-digit-test.true in
    s.low

pub overflow_add-sum : goal.overflow_add-sum
overflow_add-sum c =
    let s = length_step c.args.digits.now c.loop-digit.digit-index c.requires c.loop-digit-test.true in
    omega (arith, s.value, s.small, c.loop-digit.invariant)

pub loop-digit-preserved : goal.loop-digit-preserved
loop-digit-preserved c =
    let s = length_step c.args.digits.now c.loop-digit.digit-index c.requires c.loop-digit-test.true in
    omega (arith, s.value, c.loop-digit.invariant)
