use Rattle.plan_rules.proofs.LargerSets.{allowed_below, owners_below, conflict_below, platform_below}
use Rattle.plan_rules.proofs.laws.larger_sets.Goals as goal

-- src/laws.rt:12:1
pub returns-clause-not_allowed : goal.returns-clause-not_allowed
returns-clause-not_allowed c = allowed_below

-- src/laws.rt:12:1
pub returns-clause-two_owners : goal.returns-clause-two_owners
returns-clause-two_owners c = owners_below

-- src/laws.rt:12:1
pub returns-clause-conflict : goal.returns-clause-conflict
returns-clause-conflict c = conflict_below

-- src/laws.rt:12:1
pub returns-clause-platform : goal.returns-clause-platform
returns-clause-platform c = platform_below
