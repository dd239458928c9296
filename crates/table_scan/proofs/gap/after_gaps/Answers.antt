use Rattle.std.proofs.Common.{sym, ap, ◌∙◌, arith}
use Rattle.table_scan.specs.TableTokens.{left_of}
use Rattle.table_scan.proofs.Tokens.{tokens-gap, left_at_token}
use Rattle.table_scan.proofs.gap.after_gaps.Goals as goal

pub loop-after-preserved : goal.loop-after-preserved
loop-after-preserved c = record {
  same = sym (tokens-gap c.loop-after.rest.now c.in-Some.after.now c.in-Some.ensures.gap) ∙ c.loop-after.invariant.same;
  within = omega (arith, c.loop-after.invariant.within, c.in-Some.ensures.shorter);
}

pub returns-clause-left : goal.returns-clause-left
returns-clause-left c = sym (ap left_of c.loop-after.invariant.same) ∙ left_at_token c.loop-after.rest.now c.in_default.ensures.gap
