use Rattle.std.proofs.Common.{Bool, sym, subst}
use Rattle.std.proofs.lemmas.Result.{err_from_is_err_and}
use Rattle.stage_job.specs.Staged.{Staging}
use Rattle.install_commands.proofs.Ends.{not_staged_told, tells_lines}
use Rattle.install_commands.proofs.claimed.make_ready.Goals as goal

pub returns-in_err-stage_work-clause-told : goal.returns-in_err-stage_work-clause-told
returns-in_err-stage_work-clause-told g c =
    let p = err_from_is_err_and c.from_residual.result c.from_residual.ensures.1 in
    rw (p.1, p.2) (λ t told. not_staged_told c.args.hold.now.project t c.args.left.now.left c.args.work.now c.in_err-stage_work.field-0.0 (c.in_err-stage_work.ensures.told t told))

pub returns-clause-told : goal.returns-clause-told
returns-clause-told g c = λ t told.
    tells_lines c.args.hold.now.project t c.args.left.now.left c.stage_work.new.left.left c.args.work.now c.journal_ready.result (c.in_ok-stage_work.ensures.told t told) c.journal_ready.ensures.told

pub returns-clause-staging : goal.returns-clause-staging
returns-clause-staging g c =
    subst (λ (failed : Bool). Staging c.args.hold.now.project (g.T.Tree.meaning c.args.tree.now) (g.T.Tree.meaning c.stage_work.new.tree) failed)
    (sym c.journal_ready.ensures.no_device) c.in_ok-stage_work.ensures.staging
