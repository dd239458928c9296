use Rattle.std.proofs.Common.{sym, ◌∙◌, arith}
use Rattle.table_scan.proofs.Gaps.{block_at_star, block_ends, block_goes_on, block_without_star}
use Rattle.table_scan.proofs.gap.behind_block.Goals as goal

pub returns-in-Some-behind_slash-clause-value : goal.returns-in-Some-behind_slash-clause-value
returns-in-Some-behind_slash-clause-value c =
    sym (block_ends c.split_at.result.1.now c.in-Some-behind_slash.after.now (sym c.in-Some-behind_slash.ensures))
    ∙ sym (block_at_star c.loop-star.rest.now c.split_at.result.1.now c.in-Some.star c.in-Some.ensures c.split_at.ensures.back) ∙ c.loop-star.invariant.same

pub loop-star-preserved : goal.loop-star-preserved
loop-star-preserved c = record {
  same = sym (block_goes_on c.split_at.result.1.now (sym c.in_default-behind_slash.ensures))
      ∙ sym (block_at_star c.loop-star.rest.now c.split_at.result.1.now c.in-Some.star c.in-Some.ensures c.split_at.ensures.back) ∙ c.loop-star.invariant.same;
  within = omega (arith, c.loop-star.invariant.within, c.split_at.ensures.back_len);
}

pub returns-clause-value : goal.returns-clause-value
returns-clause-value c = sym (block_without_star c.loop-star.rest.now c.in_default.ensures) ∙ c.loop-star.invariant.same
