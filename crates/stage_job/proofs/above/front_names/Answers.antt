use Rattle.std.proofs.Common.{sym, ap, ◌∙◌}
use Rattle.path_name.specs.Paths.{without_last}
use Rattle.stage_job.proofs.AboveSteps.{way_names}
use Rattle.stage_job.proofs.above.front_names.Goals as goal
use Rattle.stage_job.proofs.above.front_names.Goals.{Start}

pub returns-clause-names : goal.returns-clause-names
returns-clause-names c =
    let front = way_names c.args.below.now c.leave.new.self c.leave.result (ap without_last (sym c.in_ok-above.ensures) ∙ c.leave.ensures.left) (λ e. c.leave.ensures.kept e ∙ c.in_ok-above.ensures) in
    rw front at c.segments.ensures
