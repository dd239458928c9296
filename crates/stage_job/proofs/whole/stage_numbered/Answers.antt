use Rattle.stage_job.proofs.WriteSteps.{none_writes}
use Rattle.std.proofs.Common.{◌≡◌, ℕ, List, [], ◌∷◌, ◌++◌, ap, ◌∙◌, arith, refl}
use Rattle.path_name.specs.Decimals.{decimal_text}
use Rattle.path_name.specs.Paths.{is_segment}
use Rattle.stage_job.proofs.Below.{in_new_below}
use Rattle.stage_job.proofs.Exits.{memory_exit}
use Rattle.stage_job.proofs.Numbers.{number_segment}
use Rattle.stage_job.proofs.StagingRules.{staging_start}
use Rattle.stage_job.proofs.whole.stage_numbered.Goals as goal
use Rattle.stage_job.proofs.whole.stage_numbered.Goals.{In_ok-to}

-- where the part is staged
to_is : (g : _) (c : In_ok-to g) → c.in_ok-to.to ≡ c.args.new.now ++ decimal_text c.args.number ∷ []
to_is g c = c.in_ok-to.ensures ∙ ap (λ (n : List ℕ). c.args.new.now ++ n ∷ []) (c.as_slice.ensures.value ∙ c.in_ok-name.ensures)

-- the name: the number's digits
pub child-requires : goal.child-requires
child-requires g c = ap is_segment (c.as_slice.ensures.value ∙ c.in_ok-name.ensures) ∙ number_segment c.args.number (omega (arith, c.ranges.number))

pub stage_part-requires : goal.stage_part-requires
stage_part-requires g c = record {
  apart = rw (to_is g (goal.at.stage_part-requires g c).In_ok-to) c.requires.apart;
  free = rw (to_is g (goal.at.stage_part-requires g c).In_ok-to) c.requires.free;
}

pub returns-in_err-name-clause-staging : goal.returns-in_err-name-clause-staging
returns-in_err-name-clause-staging g c = λ in_new. memory_exit c.from_residual.result c.from_residual.ensures.1 (staging_start)

pub returns-in_err-to-clause-staging : goal.returns-in_err-to-clause-staging
returns-in_err-to-clause-staging g c = λ in_new. memory_exit c.from_residual-in_err-to.result c.from_residual-in_err-to.ensures.1 (staging_start)

pub returns-in_err-target-clause-staging : goal.returns-in_err-target-clause-staging
returns-in_err-target-clause-staging g c = λ in_new. memory_exit c.from_residual-in_err-target.result c.from_residual-in_err-target.ensures.1 (staging_start)

pub returns-clause-staging : goal.returns-clause-staging
returns-clause-staging g c = λ in_new.
    c.stage_part.ensures.staging c.args.project.now (rw (to_is g (goal.at.returns-clause-staging g c).In_ok-to) (in_new_below c.args.project.now c.args.new.now (decimal_text c.args.number ∷ []) in_new))

pub returns-clause-checked : goal.returns-clause-checked
returns-clause-checked g c = λ t told. rw c.in_ok-target.ensures at (c.stage_part.ensures.checked t told)

pub returns-clause-staged : goal.returns-clause-staged
returns-clause-staged g c = rw (to_is g (goal.at.returns-clause-staged g c).In_ok-to) at c.stage_part.ensures.staged

-- ---- calls of write

pub returns-in_err-name-clause-writes : goal.returns-in_err-name-clause-writes
returns-in_err-name-clause-writes g c = λ t told. none_writes c.from_residual.result _ _ _ _ c.from_residual.ensures.1 refl

pub returns-in_err-to-clause-writes : goal.returns-in_err-to-clause-writes
returns-in_err-to-clause-writes g c = λ t told. none_writes c.from_residual-in_err-to.result _ _ _ _ c.from_residual-in_err-to.ensures.1 refl

pub returns-in_err-target-clause-writes : goal.returns-in_err-target-clause-writes
returns-in_err-target-clause-writes g c = λ t told. none_writes c.from_residual-in_err-target.result _ _ _ _ c.from_residual-in_err-target.ensures.1 refl

pub returns-clause-writes : goal.returns-clause-writes
returns-clause-writes g c = λ t told. c.stage_part.ensures.writes t told
