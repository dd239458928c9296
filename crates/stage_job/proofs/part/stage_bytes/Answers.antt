use Rattle.stage_job.proofs.WriteSteps.{file_writes, none_writes}
use Rattle.std.proofs.Common.{ℕ, List, Bool, cond, Ok, Err, sym, ap, ◌∙◌, arith, refl}
use Rattle.tree_dev.specs.declared.limits.LimitKind.TheVariants as limits
use Rattle.stage_job.specs.Faults.{refused}
use Rattle.stage_job.specs.declared.fault.StageFault.TheVariants as faults
use Rattle.stage_job.proofs.Below.{staged_in_new}
use Rattle.stage_job.proofs.Exits.{answer_same, memory_exit}
use Rattle.stage_job.proofs.StagingRules.{staging_start}
use Rattle.stage_job.proofs.part.stage_bytes.Goals as goal

pub returns-in_err-copy-clause-staging : goal.returns-in_err-copy-clause-staging
returns-in_err-copy-clause-staging g c = λ project in_new. memory_exit c.from_residual.result c.from_residual.ensures.1 (staging_start)

pub returns-then-is_too_long-clause-staging : goal.returns-then-is_too_long-clause-staging
returns-then-is_too_long-clause-staging g c = λ project in_new. staging_start

pub returns-then-is_too_long-clause-checked : goal.returns-then-is_too_long-clause-checked
returns-then-is_too_long-clause-checked g c = λ t told left.
    ap (λ (b : Bool). cond b (Err (faults.Limit (limits.FileBytes c.args.target.now))) (Ok left)) (sym c.is_too_long.ensures ∙ c.if-is_too_long.true)
    ∙ ap (λ (p : List (List ℕ)). refused (faults.Limit (limits.FileBytes p))) (sym c.in_ok-copy.ensures)

pub returns-clause-staging : goal.returns-clause-staging
returns-clause-staging g c = λ project in_new. c.put_file.ensures.staging project (staged_in_new project c.args.to.now in_new)

pub returns-clause-checked : goal.returns-clause-checked
returns-clause-checked g c = λ t told left.
    answer_same _ _ left c.put_file.result (sym (ap (λ (b : Bool). cond b (Err (faults.Limit (limits.FileBytes c.args.target.now))) (Ok left)) (sym c.is_too_long.ensures ∙ c.if-is_too_long.false)))
    (c.put_file.ensures.answer t told left)

-- ---- calls of write

pub returns-in_err-copy-clause-writes : goal.returns-in_err-copy-clause-writes
returns-in_err-copy-clause-writes g c = none_writes c.from_residual.result _ _ _ _ c.from_residual.ensures.1 refl

pub returns-then-is_too_long-clause-writes : goal.returns-then-is_too_long-clause-writes
returns-then-is_too_long-clause-writes g c = omega arith

pub returns-clause-writes : goal.returns-clause-writes
returns-clause-writes g c = file_writes c.put_file.result _ _ _ refl c.put_file.ensures.writes
