use Rattle.plan_rules.proofs.LargerSets.{valid_below}
use Rattle.plan_rules.proofs.laws.smaller_sets.Goals as goal

-- src/laws.rt:24:1
pub returns : goal.returns
returns c = record { valid = valid_below }
