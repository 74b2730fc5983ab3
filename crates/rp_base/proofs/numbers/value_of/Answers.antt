use Rattle.std.proofs.Common.{arith, ◌≡◌, ◌≤◌, ◌+◌, ◌-◌, ◌*◌, ◌^◌, length, take, get_or, ap, ◌∙◌}
use Rattle.std.proofs.Math.Seq.{take-length}
use Rattle.rp_base.specs.Numbers.{number_of}
use Rattle.rp_base.proofs.NumberLaws.{digit_at, number_of_more, number_of_large}
use Rattle.rp_base.proofs.numbers.value_of.Goals as goal

pub returns-in_err-tens : goal.returns-in_err-tens
returns-in_err-tens c =
    let large : 2 ^ 64 ≤ c.loop-byte.number * 10 + (get_or c.args.digits.now c.loop-byte.byte-index 0 - 48) = omega (arith, c.in_err-tens.ensures) in
    rw c.from_residual.ensures (number_of_large c.args.digits.now c.loop-byte.byte-index c.loop-byte.number c.requires c.loop-byte-test.true c.loop-byte.invariant.0 large)

pub overflow_sub-byte : goal.overflow_sub-byte
overflow_sub-byte c = (digit_at c.args.digits.now c.loop-byte.byte-index c.requires c.loop-byte-test.true).0

pub returns-in_err-number : goal.returns-in_err-number
returns-in_err-number c =
    let large : 2 ^ 64 ≤ c.loop-byte.number * 10 + (get_or c.args.digits.now c.loop-byte.byte-index 0 - 48) = omega (arith, c.in_ok-tens.ensures, c.in_err-number.ensures, c.from.ensures) in
    rw c.from_residual-in_err-number.ensures (number_of_large c.args.digits.now c.loop-byte.byte-index c.loop-byte.number c.requires c.loop-byte-test.true c.loop-byte.invariant.0 large)

pub loop-byte-preserved : goal.loop-byte-preserved
loop-byte-preserved c =
    let more = number_of_more c.args.digits.now c.loop-byte.byte-index c.loop-byte.number c.requires c.loop-byte-test.true c.loop-byte.invariant.0 in
    (omega (arith, c.in_ok-tens.ensures, c.in_ok-number.ensures, c.from.ensures, more), omega (arith, c.in_ok-number.ensures))

pub returns : goal.returns
returns c =
    let all : length c.args.digits.now ≡ c.loop-byte.byte-index = omega arith in
    let front : take c.loop-byte.byte-index c.args.digits.now ≡ c.args.digits.now = rw (← all) (take-length c.args.digits.now) in
    let whole : c.loop-byte.number ≡ number_of c.args.digits.now = c.loop-byte.invariant.0 ∙ ap number_of front in
    (rw (← whole) c.loop-byte.invariant.1, whole)
