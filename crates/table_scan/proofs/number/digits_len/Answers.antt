use Rattle.std.proofs.Common.{◌∙◌, sym, arith}
use Rattle.table_scan.proofs.Numbers.{digits_more, digits_end_at_byte, digits_end_at_end, digits_end_at_most}
use Rattle.table_scan.proofs.number.digits_len.Goals as goal

pub returns-then-not-is_digit-clause-digits : goal.returns-then-not-is_digit-clause-digits
returns-then-not-is_digit-clause-digits c = digits_end_at_byte c.args.text.now c.loop-len.len c.if-len-text.true c.loop-len-test.true (sym c.is_digit.ensures ∙ c.if-not-is_digit.true) c.loop-len.invariant.so_far

pub loop-len-preserved : goal.loop-len-preserved
loop-len-preserved c = record {
  within = omega arith;
  most = omega arith;
  so_far = digits_more c.args.text.now c.loop-len.len c.if-len-text.true c.loop-len-test.true (sym c.is_digit.ensures ∙ c.if-not-is_digit.false) c.loop-len.invariant.so_far;
}

pub returns-else-len-text-clause-digits : goal.returns-else-len-text-clause-digits
returns-else-len-text-clause-digits c = digits_end_at_end c.args.text.now c.loop-len.len c.if-len-text.false c.loop-len.invariant.so_far

pub returns-after-loop-len-clause-digits : goal.returns-after-loop-len-clause-digits
returns-after-loop-len-clause-digits c = digits_end_at_most c.args.text.now c.loop-len.len (omega arith) c.loop-len.invariant.so_far
