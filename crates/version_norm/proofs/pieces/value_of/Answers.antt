use Rattle.std.proofs.Common.{◌<◌, get_or, arith}
use Rattle.version_norm.proofs.Digits.{digit_within, digit_range, room, one_more}
use Rattle.version_norm.proofs.pieces.value_of.Goals as goal

pub overflow_mul-value : goal.overflow_mul-value
overflow_mul-value c =
    let fits = room c.loop-digit.value c.loop-digit.digit-index 0 c.loop-digit.invariant.small (omega arith) (omega arith) in
    omega (arith, fits.1)

pub overflow_add-value : goal.overflow_add-value
overflow_add-value c =
    let range = digit_range (get_or c.args.digits.now c.loop-digit.digit-index 0) (digit_within c.args.digits.now c.loop-digit.digit-index c.requires.digits c.loop-digit-test.true) in
    let digit : c.from.result < 10 = omega arith in
    let fits = room c.loop-digit.value c.loop-digit.digit-index c.from.result c.loop-digit.invariant.small (omega arith) digit in
    omega (arith, fits.1)

pub loop-digit-preserved : goal.loop-digit-preserved
loop-digit-preserved c =
    let range = digit_range (get_or c.args.digits.now c.loop-digit.digit-index 0) (digit_within c.args.digits.now c.loop-digit.digit-index c.requires.digits c.loop-digit-test.true) in
    let digit : c.from.result < 10 = omega arith in
    let fits = room c.loop-digit.value c.loop-digit.digit-index c.from.result c.loop-digit.invariant.small (omega arith) digit in
    record {
      value = rw c.from.ensures (one_more c.args.digits.now c.loop-digit.digit-index c.loop-digit.value c.requires.digits c.loop-digit-test.true c.loop-digit.invariant.value);
      small = fits.0;
    }
