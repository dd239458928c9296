use Rattle.std.proofs.Common.{◌≤◌, ◌∙◌, ap, sym, subst, length, arith}
use Rattle.plan_rules.proofs.Marked.{length_of}
use Rattle.pkg_pool.specs.declared.pool.Pool.{Pool}
use Rattle.lock_file.specs.PlanLocks.{IsRuntime}
use Rattle.lock_file.proofs.Findings.{finished}
use Rattle.lock_file.proofs.runtime.required_at_runtime.Goals as goal

pub returns-clause-runtime : goal.returns-clause-runtime
returns-clause-runtime c =
    let plan = c.in_ok-plan.plan in
    let found = c.go_on.new.self.found.items in
    let marks = c.go_on.new.self.marks.items in
    let all : length found ≤ length found = omega arith in
    let whole : IsRuntime plan.pool.now plan.members.now marks = subst (IsRuntime plan.pool.now plan.members.now) (sym c.in_ok-go_on.ensures.marks) (finished plan.pool.now plan.members.now (length found) found all c.in_ok-go_on.ensures.done) in
    subst (λ members. IsRuntime c.args.pool.now members marks) c.in_ok-plan.ensures.same.1 (subst (λ (pool : Pool). IsRuntime pool plan.members.now marks) c.in_ok-plan.ensures.same.0 whole)

pub returns-clause-length : goal.returns-clause-length
returns-clause-length c =
    let plan = c.in_ok-plan.plan in
    let found = c.go_on.new.self.found.items in
    ap length c.in_ok-go_on.ensures.marks ∙ length_of (length plan.pool.now.candidates) found ∙ ap (λ (pool : Pool). length pool.candidates) c.in_ok-plan.ensures.same.0
