-- Whether all packages of a lock together are a valid plan.
use Rattle.std.specs.Prelude.{map, true, Result, Ok, Err}
use Rattle.pkg_pool.specs.declared.pool.Pool.{Pool}
use Rattle.plan_rules.specs.Sets.{Chosen}
use Rattle.plan_rules.specs.Validity.{verdict_of}
use Rattle.plan_rules.specs.declared.rule.Rule.{Rule}
use Rattle.plan_rules.specs.declared.rule.Rule.TheVariants as rules
use Rattle.plan_rules.specs.declared.rule.Verdict.{Verdict}
use Rattle.plan_rules.specs.declared.rule.Verdict.TheVariants as verdicts
use Rattle.run_answers.specs.declared.refusal.BrokenRule.{BrokenRule}
use Rattle.run_answers.specs.declared.refusal.BrokenRule.TheVariants as broken
use Rattle.run_answers.specs.declared.refusal.Refusal.{Refusal}
use Rattle.run_answers.specs.declared.refusal.Refusal.TheVariants as refusals

-- the set of all candidates
abbrev pub whole : Pool → Chosen
whole pool = map (λ candidate. true) pool.candidates

-- a rule with the names that are printed
abbrev pub broken_rule_of : Rule → BrokenRule
broken_rule_of (rules.NotAllowed name) = broken.NotAllowed name
broken_rule_of (rules.TwoOwners name one other) = broken.TwoOwners name one other
broken_rule_of (rules.Unmet from name) = broken.Unmet from name
broken_rule_of (rules.Conflict from name other) = broken.Conflict from name other
broken_rule_of (rules.Platform from name) = broken.Platform from name

abbrev pub met_or_broken : Verdict → Result (Unit {0}) Refusal
met_or_broken verdicts.Meets = Ok tt
met_or_broken (verdicts.Breaks rule) = Err (refusals.LockUnmet (broken_rule_of rule))

-- All packages of a lock, those for development with them, are a valid plan; or the first rule that they break.
unfoldable pub all_met : Pool → Result (Unit {0}) Refusal
all_met pool = met_or_broken (verdict_of pool (whole pool))
