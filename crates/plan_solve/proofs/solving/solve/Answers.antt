use Rattle.std.proofs.Common.{◌≡◌, ◌≤◌, [], length, sym, subst, arith}
use Rattle.plan_rules.specs.FirstChoice.{IsFirstChoice}
use Rattle.plan_solve.specs.Answers.{HasNoPlan}
use Rattle.plan_solve.specs.Search.{AreMembers, IsPending}
use Rattle.plan_solve.proofs.Searching.{root_unfit, root_alone, when_none}
use Rattle.plan_solve.proofs.solving.solve.Goals as goal

pub returns-then-not-root_fits : goal.returns-then-not-root_fits
returns-then-not-root_fits c = subst HasNoPlan c.in_ok-context.ensures.pool (root_unfit c.in_ok-context.context.pool.now (c.root_fits.ensures.no c.if-not-root_fits.true))

pub returns-in_default : goal.returns-in_default
returns-in_default c =
    let pool = c.args.pool.now in
    let its = c.in_ok-context.context.pool.now in
    let same : its ≡ pool = c.in_ok-context.ensures.pool in
    let members = subst (λ it. AreMembers it [] c.in_ok-members.members) (sym same) c.in_ok-members.ensures in
    let none = when_none (λ pending. IsPending its [] pending × (length pending.alternatives.items ≤ length its.candidates)) c.in_ok-pending.field-0 c.in_default.is
    (c.in_ok-pending.ensures.next [] members (λ place link less. absurd (omega (arith, less)))) in
    subst (IsFirstChoice pool) (sym c.in_ok-plan.ensures) (subst (λ it. IsFirstChoice it []) same (root_alone its (c.root_fits.ensures.yes c.if-not-root_fits.false) none))
