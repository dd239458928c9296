use Rattle.std.proofs.Common.{subst}
use Rattle.run_answers.specs.Steps.{TellsOne}
use Rattle.install_packages.specs.Installing.{IsWorkIn}
use Rattle.table_files.specs.declared.building.Setting.{Setting}
use Rattle.install_packages.proofs.job_steps.work_by.Goals as goal

pub returns-clause-told : goal.returns-clause-told
returns-clause-told g c = λ t told.
    subst (λ (setting : Setting). TellsOne (λ work. (work, c.work_in.new.left.left)) (IsWorkIn t c.args.project.now setting c.args.chosen c.args.left.now.left) c.work_in.result) c.setting_of-setting.ensures
    (c.work_in.ensures.told t told)
