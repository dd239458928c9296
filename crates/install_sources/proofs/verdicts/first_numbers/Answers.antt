use Rattle.std.proofs.Common.{arith}
use Rattle.std.proofs.lemmas.Grind.{common_steps}
use Rattle.install_sources.proofs.WholeSets.{range_more}
use Rattle.install_sources.proofs.verdicts.first_numbers.Goals as goal

pub loop-at-preserved : goal.loop-at-preserved
loop-at-preserved c = grind (arith, common_steps, range_more 0 c.loop-at.at c.loop-at.at (omega arith))
