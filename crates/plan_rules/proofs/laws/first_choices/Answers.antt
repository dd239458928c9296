use Rattle.std.proofs.Common.{ℕ, List, [], ◌∷◌, ◌++◌, length}
use Rattle.pkg_pool.specs.declared.pool.Pool.{Pool}
use Rattle.plan_rules.specs.Validity.{is_valid}
use Rattle.plan_rules.specs.Preference.{is_alternative, is_preferred}
use Rattle.plan_rules.specs.FirstChoice.{first_unmet, AreFirst}
use Rattle.plan_rules.proofs.FirstChoices as choices
use Rattle.plan_rules.proofs.Plans.{below, met, fresh, done}
use Rattle.plan_rules.proofs.PreferenceOrder.{one_preferred, preferred_on, not_preferred_itself}
use Rattle.plan_rules.proofs.laws.first_choices.Goals as goal

-- the choices of a plan as they are of any rules
choices_of : (pool : Pool) (before plan : List ℕ) → AreFirst pool before plan → choices.AreFirst (length pool.candidates) (is_valid pool) (first_unmet pool) (is_alternative pool) (is_preferred pool) before plan
choices_of pool before [] ended = ended
choices_of pool before (choice ∷ behind) first = (
  (
    first.0.need,
    first.0.unmet,
    first.0.alternative,
    λ other alternative preferred extends. first.0.none_preferred other alternative preferred (record { set = extends.0; is_of_pool = extends.1; valid = extends.2; has_before = extends.3; has_choice = extends.4 }),
  ),
  choices_of pool (before ++ choice ∷ []) behind first.1,
)

of_choices : (pool : Pool) (before plan : List ℕ) → choices.AreFirst (length pool.candidates) (is_valid pool) (first_unmet pool) (is_alternative pool) (is_preferred pool) before plan → AreFirst pool before plan
of_choices pool before [] ended = ended
of_choices pool before (choice ∷ behind) first = (
  record {
    need = first.0.0;
    unmet = first.0.1;
    alternative = first.0.2;
    none_preferred = λ other alternative preferred extends. first.0.3 other alternative preferred (extends.set, extends.is_of_pool, extends.valid, extends.has_before, extends.has_choice);
  },
  of_choices pool (before ++ choice ∷ []) behind first.1,
)

rules_of : (pool : Pool) → choices.Rules (length pool.candidates) (is_valid pool) (first_unmet pool) (is_alternative pool) (is_preferred pool) (below pool)
rules_of pool = record { met = met pool; fresh = fresh pool; done = done pool; on = preferred_on pool; not_itself = not_preferred_itself pool }

-- src/laws.rt:10:1
pub returns-clause-one : goal.returns-clause-one
returns-clause-one c pool plan other first second = choices.unique (length pool.candidates) (is_valid pool) (first_unmet pool) (is_alternative pool) (is_preferred pool) (below pool)
    (λ need a b alternative other_too. one_preferred pool need a b) [] plan other tt first.valid second.valid (choices_of pool [] plan first.choices) (choices_of pool [] other second.choices)

-- src/laws.rt:10:1
pub returns-clause-exists : goal.returns-clause-exists
returns-clause-exists c pool set size valid =
    let found = choices.exists (length pool.candidates) (is_valid pool) (first_unmet pool) (is_alternative pool) (is_preferred pool) (below pool) (rules_of pool) set size valid in
    (found.0, record { valid = found.2; choices = of_choices pool [] found.0 found.1 })
